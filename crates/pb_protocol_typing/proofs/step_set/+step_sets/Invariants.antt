use Rattle.std.proofs.Common.{◌≡◌, drop}
use Rattle.pb_protocol_typing.specs.FormulaLinks.{sets_fault}
use Rattle.pb_protocol_typing.specs.View.{scope_of, shapes_in}
use Rattle.pb_protocol_typing.proofs.step_set.+step_sets.Given as goal

-- the first fault is that of the links that are left
abbrev pub invariant-sets_fault-loop-link : goal.invariant-sets_fault-loop-link
invariant-sets_fault-loop-link l =
    sets_fault (shapes_in l.steps) (scope_of l.scope) l.links ≡ sets_fault (shapes_in l.steps) (scope_of l.scope) (drop l.link-index l.links)
