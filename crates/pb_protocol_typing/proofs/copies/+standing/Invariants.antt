use Rattle.std.proofs.Common.{◌≡◌, drop}
use Rattle.std.specs.List.{list_any}
use Rattle.pb_text_tree.specs.Form.{argument_forms}
use Rattle.pb_protocol_typing.specs.Indices.{stands_among}
use Rattle.pb_protocol_typing.specs.IndexLinks.{operand_stands, operation_stands}
use Rattle.pb_protocol_typing.proofs.copies.+standing.Given as goal

-- the name stands in one of the operands that are left
abbrev pub invariant-stands_in_links-loop-link : goal.invariant-stands_in_links-loop-link
invariant-stands_in_links-loop-link l = list_any (operand_stands l.name) l.links ≡ list_any (operand_stands l.name) (drop l.link-index l.links)

abbrev pub invariant-stands_in_operations-loop-link : goal.invariant-stands_in_operations-loop-link
invariant-stands_in_operations-loop-link l = list_any (operation_stands l.name) l.links ≡ list_any (operation_stands l.name) (drop l.link-index l.links)

abbrev pub invariant-stands_among-loop-argument : goal.invariant-stands_among-loop-argument
invariant-stands_among-loop-argument l = stands_among l.name (argument_forms l.arguments) ≡ stands_among l.name (argument_forms (drop l.argument-index l.arguments))
