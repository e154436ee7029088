use Rattle.std.proofs.Common.{◌≡◌, ◌++◌, drop}
use Rattle.pb_protocol_typing.specs.View.{names_in}
use Rattle.pb_protocol_groups.specs.BoundLinks.{operands_bound_names}
use Rattle.pb_protocol_groups.proofs.bound_formulas.+formulas.Given as goal

-- the names so far, and those of the operands that are left
abbrev pub invariant-push_operands-loop-link : goal.invariant-push_operands-loop-link
invariant-push_operands-loop-link l = names_in l.initial.names.items ++ operands_bound_names l.links ≡ names_in l.names.items ++ operands_bound_names (drop l.link-index l.links)
