use Rattle.std.proofs.Common.{◌∙◌, ap, map}
use Rattle.pb_text_meaning.specs.Syntax.{Term}
use Rattle.pb_protocol_folding.specs.Folding.{folded_joined}
use Rattle.pb_protocol_folding.specs.Kept.{joining, truth_counts}
use Rattle.pb_protocol_folding.specs.View.{term_of}
use Rattle.pb_protocol_folding.proofs.Joined.{behind, all-behind, step-joined}
use Rattle.pb_protocol_folding.proofs.connective.joined_term.Goals as goal

pub loop-operand-init : goal.loop-operand-init
loop-operand-init c =
    ap (λ b. behind (joining c.args.quantifier) c.args.truth (map term_of c.args.operands.items) (Term.Truth b)) c.neutral-value.ensures
    ∙ all-behind c.args.quantifier c.args.truth (map term_of c.args.operands.items)

pub loop-operand-preserved : goal.loop-operand-preserved
loop-operand-preserved c =
    step-joined c.args.quantifier c.args.truth c.loop-operand.operands.items c.pop.new.self.items c.in-Some.operand
    c.loop-operand.joined c.in_ok-joined.joined c.joining-connective.result c.truth_counts.result
    c.in-Some.ensures.items c.joining-connective.ensures (c.truth_counts.ensures ∙ ap (truth_counts c.args.truth) c.deref.ensures.value) c.in_ok-joined.ensures
    (folded_joined c.args.quantifier c.args.truth (map term_of c.args.operands.items)) c.loop-operand.invariant
