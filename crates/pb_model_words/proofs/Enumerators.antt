-- The name of the enumerator at a place.
use Rattle.std.proofs.Common.{◌≡◌, ℕ, zero, suc, ◌<◌, ◌≤◌, List, [], ◌∷◌, length, get_or, refl, ap, arith}
use Rattle.std.specs.Prelude.{string_bytes}
use Rattle.std.specs.List.{slice_get}
use Rattle.pb_text_tree.specs.declared.sort.Enumerator.{Enumerator}
use Rattle.pb_model_words.specs.Words.{name_of_enumerator}
use Rattle.pb_model_words.specs.View.{enumerators_said}

pub name-at : (es : List Enumerator) (k : ℕ) (e : Enumerator) → k < length es → e ≡ get_or es k e → string_bytes e.name.text ≡ name_of_enumerator (slice_get (enumerators_said es) k)
name-at [] k e within is = absurd (omega arith)
name-at (x ∷ es) zero e within is = ap (λ (y : Enumerator). string_bytes y.name.text) is
name-at (x ∷ es) (suc k) e within is = name-at es k e (omega arith) is

pub none-at : (es : List Enumerator) (k : ℕ) → length es ≤ k → [] ≡ name_of_enumerator (slice_get (enumerators_said es) k)
none-at [] k past = refl
none-at (x ∷ es) zero past = absurd (omega arith)
none-at (x ∷ es) (suc k) past = none-at es k (omega arith)
