use Rattle.std.proofs.Common.{◌≡◌, drop}
use Rattle.std.specs.List.{list_any}
use Rattle.pb_text_tree.specs.Form.{argument_forms}
use Rattle.pb_protocol_typing.specs.IndexLinks.{operand_reads, operation_reads}
use Rattle.pb_protocol_typing.specs.Terms.{some_reads}
use Rattle.pb_protocol_typing.specs.View.{scope_of}
use Rattle.pb_protocol_typing.proofs.reading.+reading.Given as goal

-- one of the operands that are left reads the state
abbrev pub invariant-links_read-loop-link : goal.invariant-links_read-loop-link
invariant-links_read-loop-link l = let reads = operand_reads (scope_of l.scope) in list_any reads l.links ≡ list_any reads (drop l.link-index l.links)

abbrev pub invariant-operations_read-loop-link : goal.invariant-operations_read-loop-link
invariant-operations_read-loop-link l = let reads = operation_reads (scope_of l.scope) in list_any reads l.links ≡ list_any reads (drop l.link-index l.links)

abbrev pub invariant-some_reads-loop-argument : goal.invariant-some_reads-loop-argument
invariant-some_reads-loop-argument l =
    some_reads (scope_of l.scope) (argument_forms l.arguments) ≡ some_reads (scope_of l.scope) (argument_forms (drop l.argument-index l.arguments))
