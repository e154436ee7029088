use Rattle.std.proofs.Common.{◌≡◌, ◌++◌, drop, flat_map}
use Rattle.pb_protocol_packing.specs.Groups.{term_names, all_term_names}
use Rattle.pb_protocol_packer.specs.View.{operands_of, operations_of, terms_of}
use Rattle.pb_protocol_packer.specs.Initial.{names_by}
use Rattle.pb_protocol_groups.specs.Names.{operation_names}
use Rattle.pb_protocol_groups.proofs.term_names.+terms.Given as goal

abbrev pub invariant-push_links-loop-link : goal.invariant-push_links-loop-link
invariant-push_links-loop-link l =
    names_by l.names.items ++ flat_map term_names (operands_of (drop l.link-index l.links)) ≡ names_by l.initial.names.items ++ flat_map term_names (operands_of l.links)

abbrev pub invariant-push_operations-loop-link : goal.invariant-push_operations-loop-link
invariant-push_operations-loop-link l =
    names_by l.names.items ++ flat_map operation_names (operations_of (drop l.link-index l.links)) ≡ names_by l.initial.names.items ++ flat_map operation_names (operations_of l.links)

abbrev pub invariant-push_arguments-loop-argument : goal.invariant-push_arguments-loop-argument
invariant-push_arguments-loop-argument l =
    names_by l.names.items ++ all_term_names (terms_of (drop l.argument-index l.arguments)) ≡ names_by l.initial.names.items ++ all_term_names (terms_of l.arguments)
