use Rattle.std.proofs.Common.{◌≡◌, ◌∙◌, ℕ, suc, true, false, ap, arith, subst, sym, string_bytes}
use Rattle.std.specs.Prelude.{IfOk, codes}
use Rattle.pb_text_meaning.specs.Functions.{named_function}
use Rattle.pb_text_meaning.specs.Syntax.{Name, Term}
use Rattle.pb_protocol_folding.specs.Folding.{is_if}
use Rattle.pb_protocol_folding.specs.View as tree
use Rattle.pb_protocol_unfolder_terms.specs.Puts.{choice_of}
use Rattle.pb_protocol_unfolder_terms.specs.Unfolding.{IsUnfolded}
use Rattle.pb_protocol_unfolder_terms.proofs.ChoiceLemmas.{if-named}
use Rattle.pb_protocol_unfolder_terms.proofs.counting.one_if.Goals as goal

pub choice-requires : goal.choice-requires
choice-requires c = ap (λ (f : Name). is_if (named_function f)) (rw c.in_ok-condition.ensures.1 at c.choosing.ensures) ∙ if-named

pub returns : goal.returns
returns c = λ n t truth h.
    let S = tree.spec_of c.args.folding.now.sorts.now in
    let named : string_bytes c.in_ok-condition.name.text ≡ codes "if" = rw c.in_ok-condition.ensures.1 at c.choosing.ensures in
    subst (λ (f : Name). IfOk c.choice.result (IsUnfolded S truth (suc n) (choice_of f t (Term.Number 1) (Term.Number 0)))) named
    (c.choice.ensures c.args.condition.room (suc n) t (Term.Number 1) (Term.Number 0) truth (ap tree.term_of c.in_ok-condition.ensures.0 ∙ h.term)
    (c.number-left.ensures.term S false)
    (subst (λ (m : ℕ). IsUnfolded S false m (Term.Number 0) c.number-right.result) (sym c.number-left.ensures.room) (c.number-right.ensures.term S false))
    (omega (arith, h.room)))
