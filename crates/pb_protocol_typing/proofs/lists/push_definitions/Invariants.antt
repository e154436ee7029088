use Rattle.std.proofs.Common.{◌≡◌, ◌++◌, drop, flat_map, map}
use Rattle.pb_protocol_tree.specs.Form.{definition_form}
use Rattle.pb_protocol_typing.specs.Lists.{definition_lists}
use Rattle.pb_protocol_typing.specs.View.{list_forms}
use Rattle.pb_protocol_typing.proofs.lists.push_definitions.Given as goal

-- the lists so far, and those that are left
abbrev pub invariant-loop-definition : goal.invariant-loop-definition
invariant-loop-definition l =
    list_forms l.fn.lists.items ++ flat_map definition_lists (map definition_form l.definitions)
    ≡ list_forms l.lists.items ++ flat_map definition_lists (map definition_form (drop l.definition-index l.definitions))
