use Rattle.std.proofs.Common.{◌≡◌, map, length}
use Rattle.pb_protocol_folding.specs.Folding.{folded_joined}
use Rattle.pb_protocol_folding.specs.Kept.{joining}
use Rattle.pb_protocol_folding.specs.View.{term_of}
use Rattle.pb_protocol_folding.proofs.Joined.{behind}
use Rattle.pb_protocol_folding.proofs.connective.joined_term.Given as goal

-- what is joined stands behind the operands that are left
abbrev pub invariant-loop-operand : goal.invariant-loop-operand
invariant-loop-operand l =
    behind (joining l.fn.quantifier) l.fn.truth (map term_of l.operands.items) (term_of l.joined)
    ≡ folded_joined l.fn.quantifier l.fn.truth (map term_of l.fn.operands.items)

abbrev pub decreases-loop-operand : goal.decreases-loop-operand
decreases-loop-operand l = length l.operands.items
