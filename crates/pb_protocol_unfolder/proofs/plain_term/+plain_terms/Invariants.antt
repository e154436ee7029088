use Rattle.std.proofs.Common.{◌≡◌, drop, map}
use Rattle.std.specs.List.{list_all}
use Rattle.pb_text_tree.specs.Form.{argument_forms}
use Rattle.pb_protocol_unfolder.specs.Plain.{is_plain_term, are_plain_arguments}
use Rattle.pb_protocol_unfolder.specs.View.{operand_form, operation_form}
use Rattle.pb_protocol_unfolder.proofs.plain_term.+plain_terms.Given as goal

abbrev pub invariant-are_plain_links-loop-link : goal.invariant-are_plain_links-loop-link
invariant-are_plain_links-loop-link l = list_all is_plain_term (map operand_form (drop l.link-index l.links)) ≡ list_all is_plain_term (map operand_form l.links)

abbrev pub invariant-are_plain_operations-loop-link : goal.invariant-are_plain_operations-loop-link
invariant-are_plain_operations-loop-link l = list_all is_plain_term (map operation_form (drop l.link-index l.links)) ≡ list_all is_plain_term (map operation_form l.links)

abbrev pub invariant-are_plain_arguments-loop-argument : goal.invariant-are_plain_arguments-loop-argument
invariant-are_plain_arguments-loop-argument l = are_plain_arguments (argument_forms (drop l.argument-index l.arguments)) ≡ are_plain_arguments (argument_forms l.arguments)
