use Rattle.std.proofs.Common.{◌≡◌, ◌++◌, drop, flat_map, map}
use Rattle.pb_protocol_tree.specs.Form.{assignment_form}
use Rattle.pb_protocol_typing.specs.Lists.{copied_lists}
use Rattle.pb_protocol_typing.specs.View.{list_forms}
use Rattle.pb_protocol_typing.proofs.lists.push_all_copied.Given as goal

-- the lists so far, and those that are left
abbrev pub invariant-loop-assignment : goal.invariant-loop-assignment
invariant-loop-assignment l =
    list_forms l.fn.lists.items ++ flat_map copied_lists (map assignment_form l.assignments)
    ≡ list_forms l.lists.items ++ flat_map copied_lists (map assignment_form (drop l.assignment-index l.assignments))
