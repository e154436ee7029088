use Rattle.std.proofs.Common.{◌∙◌, ℕ, ◌/◌, ◌%◌, List, [], ◌∷◌, ◌++◌, append_assoc, sym, ap, arith}
use Rattle.pb_model_sizes.specs.Digits.{low_digits}
use Rattle.pb_model_sizes.proofs.DigitLemmas.{low_digits-step}
use Rattle.pb_model_sizes.proofs.number.push_digits.Goals as goal

pub rest-preserved : goal.rest-preserved
rest-preserved c =
    let old = c.rest.digits.items in
    let rest = c.rest.rest in
    ap (λ (ds : List ℕ). ds ++ low_digits (rest / 10)) c.in_ok-push.ensures.items
    ∙ (append_assoc old (rest % 10 ∷ []) (low_digits (rest / 10))
    ∙ (ap (λ (ds : List ℕ). old ++ ds) (sym (low_digits-step rest (omega arith))) ∙ c.rest.invariant))
