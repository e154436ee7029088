use Rattle.std.proofs.Common.{◌≡◌, ℕ, get_or, subst, sym, ap, ◌∙◌, arith}
use Rattle.std.proofs.lemmas.List.{get_or_default}
use mathlib.Core.Logic.{dite}
use native.Mathlib.Decide.{ℕ_discrete}
use Rattle.pb_fixpoint_trees.specs.Row.{ListHasNoCut}
use Rattle.pb_fixpoint_trees.proofs.cuts.any_list_has_cut.Goals as goal

pub returns : goal.returns
returns c = λ _ k d h. c.loop-tokens.invariant k d (omega arith)

pub loop-tokens-preserved : goal.loop-tokens-preserved
loop-tokens-preserved c = λ j d h.
    let i = c.loop-tokens.tokens-index in let item = c.tokens-item.result in let lists = c.args.lists.now in
    let none : ListHasNoCut item = sym c.any_cut.ensures ∙ c.if-any_cut.false in
    dite (ℕ_discrete j i)
    (λ (e : j ≡ i). subst ListHasNoCut (sym (ap (λ (n : ℕ). get_or lists n d) e ∙ (get_or_default lists i d item (omega arith) ∙ sym c.tokens-item.is))) none)
    (λ ne. c.loop-tokens.invariant j d (omega arith))
