use Rattle.std.proofs.Common.{◌≡◌, ℕ, List, [], ◌∷◌, ◌++◌, length, get_or, inl, inr, sym, ap, ◌∙◌, arith}
use Rattle.std.proofs.lemmas.Bool.{cases_eq}
use Rattle.std.proofs.lemmas.List.{get_or_append_left, get_or_push, length_push}
use Rattle.pb_evidence.specs.Evidence.{graph_of}
use Rattle.pb_evidence_words.specs.Order.{sole_parent_at}
use Rattle.pb_evidence_words.proofs.lines.sole_parents.Goals as goal

pub loop-line-preserved : goal.loop-line-preserved
loop-line-preserved c =
    let xs = c.loop-line.sole.items in
    let y = c.sole_parent-parent.result in
    let ys = c.push.new.self.items in
    let line = c.loop-line.line in
    let sole : ℕ → ℕ = sole_parent_at (graph_of c.args.evidence.now) c.args.cuts.now in
    let sized : length xs ≡ line = c.loop-line.invariant.sized in
    let pushed : ys ≡ xs ++ y ∷ [] = c.in_ok-push.ensures.items in
    record {
      sized = omega (arith, ap length pushed, length_push xs y, sized);
      sole = λ k less. elim (cases_eq k line) [
        | inl last ↦ ap (λ (zs : List ℕ). get_or zs k 0) pushed ∙ get_or_push xs y 0 k (sized ∙ sym last) ∙ c.sole_parent-parent.ensures ∙ ap sole (sym last)
        | inr other ↦ ap (λ (zs : List ℕ). get_or zs k 0) pushed ∙ get_or_append_left xs (y ∷ []) 0 k (omega (arith, less, other, sized))
            ∙ c.loop-line.invariant.sole k (omega (arith, less, other))
      ];
    }
