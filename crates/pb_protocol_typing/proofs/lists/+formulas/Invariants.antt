use Rattle.std.proofs.Common.{◌≡◌, ◌++◌, drop}
use Rattle.pb_protocol_typing.specs.ListLinks.{operands_lists}
use Rattle.pb_protocol_typing.specs.View.{list_forms}
use Rattle.pb_protocol_typing.proofs.lists.+formulas.Given as goal

-- the lists so far, and those of the operands that are left
abbrev pub invariant-push_operands-loop-link : goal.invariant-push_operands-loop-link
invariant-push_operands-loop-link l = list_forms l.fn.lists.items ++ operands_lists l.links ≡ list_forms l.lists.items ++ operands_lists (drop l.link-index l.links)
