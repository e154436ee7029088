use Rattle.std.proofs.Common.{◌∙◌, ap}
use Rattle.pb_protocol_folding.specs.Kept.{truth_counts}
use Rattle.pb_protocol_folding.specs.View.{term_of}
use Rattle.pb_protocol_unfolder_terms.specs.Chains.{operands_of}
use Rattle.pb_protocol_unfolder_terms.specs.Operands.{behind}
use Rattle.pb_protocol_unfolder_terms.proofs.OperandLemmas.{operand-joined}
use Rattle.pb_protocol_unfolder_terms.proofs.operands.joined_term.Goals as goal

pub loop-link-preserved : goal.loop-link-preserved
loop-link-preserved c =
    let k = c.args.connected.connective in
    let t = c.args.connected.truth in
    operand-joined k t c.truth_counts.result c.loop-link.before.items c.pop.new.self.items c.in-Some.link c.loop-link.joined c.in_ok-joined.joined
    (behind k t (operands_of c.args.before.items) (term_of c.args.last))
    c.in-Some.ensures.items (c.truth_counts.ensures ∙ ap (λ xs. truth_counts t (operands_of xs)) c.deref.ensures.value) c.in_ok-joined.ensures c.loop-link.invariant
