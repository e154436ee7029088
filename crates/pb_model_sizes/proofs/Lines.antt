-- Lines that are written one behind the other.
use Rattle.std.proofs.Common.{◌≡◌, ◌∙◌, ℕ, ◌+◌, ◌<◌, List, [], ◌++◌, length, get_or, drop, append_assoc, sym, ap}
use Rattle.std.specs.Prelude.{flat_map}
use Rattle.std.proofs.lemmas.Grind.{flat_map-append}
use Rattle.std.proofs.lemmas.List.{append-nil}
use Rattle.pb_sorts.proofs.Places.{drop-at}

-- the next piece is written, and the rest is left
pub text-in : (all lines piece rest new : List ℕ) → all ≡ lines ++ (piece ++ rest) → new ≡ lines ++ piece → all ≡ new ++ rest
text-in all lines piece rest new is made = is ∙ (sym (append_assoc lines piece rest) ∙ ap (λ (t : List ℕ). t ++ rest) (sym made))

-- nothing is left
pub text-whole : (all lines rest : List ℕ) → all ≡ lines ++ rest → rest ≡ [] → lines ≡ all
text-whole all lines rest is none = sym (is ∙ (ap (λ (t : List ℕ). lines ++ t) none ∙ append-nil lines))

-- the pieces of two lists
pub pieces-next : {X Y Z : Type 0} (line : Y → List Z) (forms : X → List Y) (xs : List X) (k : ℕ) (x : X) → k < length xs → x ≡ get_or xs k x
    → flat_map line (flat_map forms (drop k xs)) ≡ flat_map line (forms x) ++ flat_map line (flat_map forms (drop (k + 1) xs))
pieces-next line forms xs k x below at =
    ap (λ ys. flat_map line (flat_map forms ys)) (drop-at xs k x below at)
    ∙ flat_map-append line (forms x) (flat_map forms (drop (k + 1) xs))
