-- The greatest element of a list.
use Rattle.std.proofs.Common.{◌≡◌, ℕ, zero, suc, ◌+◌, ◌<◌, ◌≤◌, List, [], ◌∷◌, length, get_or, take, arith, max, refl, add-one}
use Rattle.pb_game.specs.Adjacency.{greatest_of}

pub greatest_of-upper : (xs : List ℕ) (k : ℕ) → k < length xs → get_or xs k 0 ≤ greatest_of xs
greatest_of-upper [] k h = absurd (omega arith)
greatest_of-upper (x ∷ xs) zero h = omega arith
greatest_of-upper (x ∷ xs) (suc k) h = omega (arith, greatest_of-upper xs k (omega arith))

more : (xs : List ℕ) (k : ℕ) → k < length xs → greatest_of (take (suc k) xs) ≡ max (get_or xs k 0) (greatest_of (take k xs))
more [] k h = absurd (omega arith)
more (x ∷ xs) zero h = refl
more (x ∷ xs) (suc k) h = omega (arith, more xs k (omega arith))

-- one element more
pub greatest_of-take : (xs : List ℕ) (k : ℕ) → k < length xs → greatest_of (take (k + 1) xs) ≡ max (get_or xs k 0) (greatest_of (take k xs))
greatest_of-take xs k h = rw add-one (more xs k h)

-- where all elements are below a limit, so is the greatest
pub greatest_of-below : (xs : List ℕ) (limit : ℕ) → 0 < limit → ((k : ℕ) → k < length xs → get_or xs k 0 < limit) → greatest_of xs < limit
greatest_of-below [] limit some below = some
greatest_of-below (x ∷ xs) limit some below =
    omega (arith, below 0 (omega arith), greatest_of-below xs limit some (λ k h. below (suc k) (omega arith)))
