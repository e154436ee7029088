-- The rising list of a list's numbers rises strictly.
use Rattle.std.proofs.Common.{ℕ, zero, suc, ◌<◌, List, [], ◌∷◌, length, get_or, add-one, arith}
use Rattle.std.specs.Prelude.{nat_lt, ◌==◌}
use Rattle.std.specs.List.Sorted.{IsStrictlyIncreasing}
use Rattle.std.proofs.lemmas.Bool.{cond_both, ltb-true, ltb-false, eqb-false}
use Rattle.pb_fixpoint_trees.specs.Game.{with_number, rising, rising_or}

-- the list rises, from above m
abbrev pub Above : ℕ → List ℕ → Type 0
Above m [] = Unit {0}
Above m (x ∷ xs) = (m < x) × Above x xs

abbrev pub Rises : List ℕ → Type 0
Rises [] = Unit {0}
Rises (x ∷ xs) = Above x xs

pub above_with : (m n : ℕ) (xs : List ℕ) → m < n → Above m xs → Above m (with_number n xs)
above_with m n [] h a = (h, tt)
above_with m n (x ∷ xs) h a =
    cond_both (nat_lt n x) (n ∷ (x ∷ xs)) _ (Above m) (λ l. (h, (ltb-true n x l, a.1)))
    (λ g. cond_both (n == x) (x ∷ xs) (x ∷ with_number n xs) (Above m) (λ _. a)
    (λ d. (a.0, above_with x n xs (let ge = ltb-false n x g in let ne = eqb-false n x d in grind (arith, ge, ne)) a.1)))

pub rises_with : (n : ℕ) (xs : List ℕ) → Rises xs → Rises (with_number n xs)
rises_with n [] r = tt
rises_with n (x ∷ xs) r =
    cond_both (nat_lt n x) (n ∷ (x ∷ xs)) _ Rises (λ l. (ltb-true n x l, r))
    (λ g. cond_both (n == x) (x ∷ xs) (x ∷ with_number n xs) Rises (λ _. r)
    (λ d. above_with x n xs (let ge = ltb-false n x g in let ne = eqb-false n x d in grind (arith, ge, ne)) r))

pub rising-rises : (xs : List ℕ) → Rises (rising xs)
rising-rises [] = tt
rising-rises (x ∷ xs) = rises_with x (rising xs) (rising-rises xs)

above-increasing : (m : ℕ) (xs : List ℕ) → Above m xs → (k : ℕ) → k < length xs → get_or (m ∷ xs) k 0 < get_or xs k 0
above-increasing m [] a k h = absurd (omega arith)
above-increasing m (x ∷ xs) a zero h = a.0
above-increasing m (x ∷ xs) a (suc k) h = above-increasing x xs a.1 k (omega arith)

increasing : (xs : List ℕ) → Rises xs → IsStrictlyIncreasing xs
increasing [] r k h = absurd (omega arith)
increasing (x ∷ xs) r k h = rw (add-one k) (above-increasing x xs r k (omega arith))

pub rising_or-increasing : (n : ℕ) (xs : List ℕ) → IsStrictlyIncreasing (rising_or n xs)
rising_or-increasing n [] = increasing (n ∷ []) tt
rising_or-increasing n (x ∷ xs) = increasing (rising (x ∷ xs)) (rising-rises (x ∷ xs))

some_with : (n : ℕ) (xs : List ℕ) → 0 < length (with_number n xs)
some_with n [] = omega arith
some_with n (x ∷ xs) =
    cond_both (nat_lt n x) (n ∷ (x ∷ xs)) _ (λ (ys : List ℕ). 0 < length ys) (λ _. omega arith)
    (λ _. cond_both (n == x) (x ∷ xs) (x ∷ with_number n xs) (λ (ys : List ℕ). 0 < length ys) (λ _. omega arith) (λ _. omega arith))

pub rising_or-some : (n : ℕ) (xs : List ℕ) → 0 < length (rising_or n xs)
rising_or-some n [] = omega arith
rising_or-some n (x ∷ xs) = some_with x (rising xs)
