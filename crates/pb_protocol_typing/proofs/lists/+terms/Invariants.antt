use Rattle.std.proofs.Common.{◌≡◌, ◌++◌, drop}
use Rattle.pb_text_tree.specs.Form.{argument_forms}
use Rattle.pb_protocol_typing.specs.ListLinks.{links_lists, operations_lists}
use Rattle.pb_protocol_typing.specs.Lists.{arguments_lists}
use Rattle.pb_protocol_typing.specs.View.{list_forms}
use Rattle.pb_protocol_typing.proofs.lists.+terms.Given as goal

-- the lists so far, and those of the operands that are left
abbrev pub invariant-push_links-loop-link : goal.invariant-push_links-loop-link
invariant-push_links-loop-link l = list_forms l.fn.lists.items ++ links_lists l.links ≡ list_forms l.lists.items ++ links_lists (drop l.link-index l.links)

abbrev pub invariant-push_operations-loop-link : goal.invariant-push_operations-loop-link
invariant-push_operations-loop-link l = list_forms l.fn.lists.items ++ operations_lists l.links ≡ list_forms l.lists.items ++ operations_lists (drop l.link-index l.links)

abbrev pub invariant-push_arguments-loop-argument : goal.invariant-push_arguments-loop-argument
invariant-push_arguments-loop-argument l =
    list_forms l.fn.lists.items ++ arguments_lists (argument_forms l.arguments) ≡ list_forms l.lists.items ++ arguments_lists (argument_forms (drop l.argument-index l.arguments))
