use Rattle.std.proofs.Common.{◌≡◌, drop, map}
use Rattle.std.specs.List.{list_all}
use Rattle.pb_protocol_tree.specs.Form.{assignment_form}
use Rattle.pb_protocol_meaning.specs.Erase.{erased_assignment}
use Rattle.pb_protocol_symmetry.specs.Kinds.{extended}
use Rattle.pb_protocol_scalar_sets.specs.Steps.{may_assign}
use Rattle.pb_protocol_scalar_sets.specs.View.{scope_of, signature_said}
use Rattle.pb_protocol_scalar_sets.proofs.step.assignment_fits.Given as goal

-- the state variables that are left
abbrev pub invariant-loop-target : goal.invariant-loop-target
invariant-loop-target l =
    let a = erased_assignment (assignment_form l.assignment) in
    let all = list_all (may_assign l.context (extended a.variables (scope_of l.around)) a.variables a) in
    let ys = l.context.known.state.now in
    all (map signature_said ys) ≡ all (map signature_said (drop l.target-index ys))
