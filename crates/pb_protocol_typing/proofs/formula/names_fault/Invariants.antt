use Rattle.std.proofs.Common.{◌≡◌, drop, map}
use Rattle.pb_text_tree.specs.Form.{named}
use Rattle.pb_protocol_typing.specs.Fault.{first_fault}
use Rattle.pb_protocol_typing.specs.Formulas.{hidden_fault}
use Rattle.pb_protocol_typing.specs.View.{scope_of}
use Rattle.pb_protocol_typing.proofs.formula.names_fault.Given as goal

-- the first fault is that of the names that are left
abbrev pub invariant-loop-name : goal.invariant-loop-name
invariant-loop-name l =
    first_fault (hidden_fault (scope_of l.scope)) (map named l.names) ≡ first_fault (hidden_fault (scope_of l.scope)) (map named (drop l.name-index l.names))
