use Rattle.std.proofs.Common.{◌≡◌, length}
use Rattle.pb_protocol_folding.specs.View.{term_of}
use Rattle.pb_protocol_unfolder_terms.specs.Chains.{operands_of}
use Rattle.pb_protocol_unfolder_terms.specs.Operands.{behind}
use Rattle.pb_protocol_unfolder_terms.proofs.operands.joined_term.Given as goal

-- what is joined stands behind the operands that are left
abbrev pub invariant-loop-link : goal.invariant-loop-link
invariant-loop-link l =
    behind l.fn.connected.connective l.fn.connected.truth (operands_of l.before.items) (term_of l.joined)
    ≡ behind l.fn.connected.connective l.fn.connected.truth (operands_of l.fn.before.items) (term_of l.fn.last)

abbrev pub decreases-loop-link : goal.decreases-loop-link
decreases-loop-link l = length l.before.items
