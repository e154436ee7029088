-- The equation that a search finds stands at the place that it tells.
use Rattle.std.proofs.Common.{◌≡◌, ℕ, Bool, true, false, List, length, Some, None, cond, refl, ◌∙◌, ap, find}
use Rattle.std.specs.Prelude.{nat_lt, position}
use Rattle.std.specs.List.{slice_get, position_or_len}
use Rattle.std.proofs.lemmas.List.Folds.{find_at}
use Rattle.std.proofs.lemmas.Option.{cond_some, slice_get_past}
use Rattle.std.proofs.lemmas.Bool.{ltb-false}
use Rattle.pb_text_meaning.specs.Syntax.{Equation}

pub found : (p : Equation → Bool) (E : List Equation) (k : ℕ) → position p E ≡ Some k → find p E ≡ slice_get E k
found p E k e = find_at p E ∙ ap (slice_get E) (cond_some (nat_lt (position_or_len p E) (length E)) (position_or_len p E) k e).1

no_place : (b : Bool) (n : ℕ) → cond b (Some n) None ≡ None → b ≡ false
no_place true n e = cc
no_place false n e = refl

pub not_found : (p : Equation → Bool) (E : List Equation) → position p E ≡ None → find p E ≡ None
not_found p E e = find_at p E ∙ slice_get_past E (position_or_len p E) (ltb-false (position_or_len p E) (length E) (no_place (nat_lt (position_or_len p E) (length E)) (position_or_len p E) e))
