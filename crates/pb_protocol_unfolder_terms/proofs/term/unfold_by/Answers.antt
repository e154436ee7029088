use Rattle.std.proofs.Common.{◌≡◌, ℕ, length, subst, arith}
use Rattle.std.specs.Prelude.{IfErr}
use Rattle.pb_base.specs.declared.limits.TheConstants.{MAX_OPERATORS}
use Rattle.pb_text_tree.specs.Form.{term_form}
use Rattle.pb_protocol_folding.specs.View as tree
use Rattle.pb_protocol_unfolder_terms.specs.Contexts.{folding_in}
use Rattle.pb_protocol_unfolder_terms.specs.Met.{Itself, at}
use Rattle.pb_protocol_unfolder_terms.specs.Puts.{put}
use Rattle.pb_protocol_unfolder_terms.specs.Unfolding.{Unfolds}
use Rattle.pb_protocol_unfolder_terms.specs.Tells.{IsFaultOf, scope_said, surroundings_in}
use Rattle.pb_protocol_unfolder_terms.proofs.MetLemmas.{values-met}
use Rattle.pb_protocol_unfolder_terms.proofs.term.unfold_by.Goals as goal

pub returns-clause-term : goal.returns-clause-term
returns-clause-term c =
    let k = c.args.context.now in
    let counted : c.len.result ≡ length k.definitions.items = omega (arith, c.len.ensures, k.definitions.ok.0) in
    subst (λ (n : ℕ). Unfolds (folding_in k) c.args.truth MAX_OPERATORS (put k n c.args.scope.now (tree.term_of c.args.term.now)) c.unfold.result) counted c.unfold.ensures.term

pub returns-clause-faults : goal.returns-clause-faults
returns-clause-faults c =
    let k = c.args.context.now in
    let σ = scope_said k c.args.scope.now in
    let x = term_form c.args.term.now in
    let w = at 200 c.len.result σ x in
    let counted : c.len.result ≡ length k.definitions.items = omega (arith, c.len.ensures, k.definitions.ok.0) in
    λ v. subst (λ (n : ℕ). IfErr c.unfold.result (IsFaultOf (surroundings_in k) (at 200 n σ x))) counted
    (c.unfold.ensures.faults w (Itself, values-met k c.args.scope.now w v))
