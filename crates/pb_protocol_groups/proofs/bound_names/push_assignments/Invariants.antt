use Rattle.std.proofs.Common.{◌≡◌, ◌++◌, drop, flat_map, map}
use Rattle.pb_model_tree.specs.Form.{assignment_form}
use Rattle.pb_protocol_typing.specs.View.{names_in}
use Rattle.pb_protocol_groups.specs.Bound.{assigned_bound_names}
use Rattle.pb_protocol_groups.proofs.bound_names.push_assignments.Given as goal

abbrev pub invariant-loop-assignment : goal.invariant-loop-assignment
invariant-loop-assignment l =
    names_in l.initial.names.items ++ flat_map assigned_bound_names (map assignment_form l.assignments)
    ≡ names_in l.names.items ++ flat_map assigned_bound_names (map assignment_form (drop l.assignment-index l.assignments))
