-- Lists whose front was written place by place.
use Rattle.std.proofs.Common.{◌≡◌, ℕ, zero, suc, ◌<◌, ◌≤◌, List, [], ◌∷◌, ◌++◌, map, length, take, drop, get_or, refl, ap, arith}
use Rattle.std.specs.Prelude.{slice_set}

-- one more place
pub filled-more : {X Y : Type 0} (f : X → Y) (xs : List X) (old : List Y) (i : ℕ) (d : X) (y : Y) → i < length xs → length old ≡ length xs → y ≡ f (get_or xs i d)
    → slice_set (map f (take i xs) ++ drop i old) i y ≡ map f (take (suc i) xs) ++ drop (suc i) old
filled-more f [] old i d y lt same is = absurd (omega arith)
filled-more f (x ∷ xs) [] i d y lt same is = absurd (omega arith)
filled-more {X} {Y} f (x ∷ xs) (o ∷ old) zero d y lt same is = ap (λ (z : Y). z ∷ old) is
filled-more {X} {Y} f (x ∷ xs) (o ∷ old) (suc i) d y lt same is = ap (λ (zs : List Y). f x ∷ zs) (filled-more f xs old i d y (omega arith) (omega arith) is)

-- all places
pub filled-all : {X Y : Type 0} (f : X → Y) (xs : List X) (old : List Y) (i : ℕ) → length xs ≤ i → length old ≡ length xs → map f (take i xs) ++ drop i old ≡ map f xs
filled-all f [] [] zero le same = refl
filled-all f [] [] (suc i) le same = refl
filled-all f [] (o ∷ old) i le same = absurd (omega arith)
filled-all f (x ∷ xs) [] i le same = absurd (omega arith)
filled-all f (x ∷ xs) (o ∷ old) zero le same = absurd (omega arith)
filled-all {X} {Y} f (x ∷ xs) (o ∷ old) (suc i) le same = ap (λ (zs : List Y). f x ∷ zs) (filled-all f xs old i (omega arith) (omega arith))
