use Rattle.std.proofs.Common.{◌≡◌, ◌++◌, drop}
use Rattle.pb_text_tree.specs.Form.{argument_forms}
use Rattle.pb_protocol_typing.specs.View.{names_in}
use Rattle.pb_protocol_groups.specs.Bound.{all_bound_names}
use Rattle.pb_protocol_groups.specs.BoundLinks.{links_bound_names, operations_bound_names}
use Rattle.pb_protocol_groups.proofs.bound_terms.+terms.Given as goal

-- the names so far, and those of the operands that are left
abbrev pub invariant-push_links-loop-link : goal.invariant-push_links-loop-link
invariant-push_links-loop-link l = names_in l.initial.names.items ++ links_bound_names l.links ≡ names_in l.names.items ++ links_bound_names (drop l.link-index l.links)

abbrev pub invariant-push_operations-loop-link : goal.invariant-push_operations-loop-link
invariant-push_operations-loop-link l = names_in l.initial.names.items ++ operations_bound_names l.links ≡ names_in l.names.items ++ operations_bound_names (drop l.link-index l.links)

abbrev pub invariant-push_arguments-loop-argument : goal.invariant-push_arguments-loop-argument
invariant-push_arguments-loop-argument l =
    names_in l.initial.names.items ++ all_bound_names (argument_forms l.arguments) ≡ names_in l.names.items ++ all_bound_names (argument_forms (drop l.argument-index l.arguments))
