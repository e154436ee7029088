use Rattle.std.proofs.Common.{◌≡◌, drop, map}
use Rattle.std.specs.List.{list_all}
use Rattle.pb_protocol_tree.specs.Form.{assignment_form}
use Rattle.pb_protocol_meaning.specs.Erase.{erased_assignment}
use Rattle.pb_protocol_unfolding.specs.Whole as whole
use Rattle.pb_protocol_whole_steps.specs.View.{name_in}
use Rattle.pb_protocol_whole_steps.proofs.whole.all_assign_data.Given as goal

abbrev pub invariant-loop-assignment : goal.invariant-loop-assignment
invariant-loop-assignment l =
    list_all (whole.assigns_data (map name_in l.own)) (map erased_assignment (map assignment_form (drop l.assignment-index l.assignments)))
    ≡ list_all (whole.assigns_data (map name_in l.own)) (map erased_assignment (map assignment_form l.assignments))
