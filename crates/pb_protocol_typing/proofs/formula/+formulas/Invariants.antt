use Rattle.std.proofs.Common.{◌≡◌, drop}
use Rattle.pb_typing.specs.View.{is_positive}
use Rattle.pb_protocol_typing.specs.FormulaLinks.{operands_fault}
use Rattle.pb_protocol_typing.specs.View.{scope_of, shapes_in}
use Rattle.pb_protocol_typing.proofs.formula.+formulas.Given as goal

-- the first fault is that of the links that are left
abbrev pub invariant-operands_fault-loop-index : goal.invariant-operands_fault-loop-index
invariant-operands_fault-loop-index l =
    let fault = operands_fault (shapes_in l.steps) (scope_of l.scope) l.connective (is_positive l.polarity) in fault l.links ≡ fault (drop l.index l.links)
