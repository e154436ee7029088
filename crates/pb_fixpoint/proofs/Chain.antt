-- A rising chain of sets stands still after as many steps as there are elements.
use Rattle.std.proofs.Common.{◌≡◌, ℕ, zero, suc, ◌+◌, ◌<◌, ◌≤◌, ◌⊎◌, Bool, true, false, cond, List, [], ◌∷◌, length, Contains, inl, inr, refl, sym, ◌∙◌, ap, arith, get_or, true≢false}
use Rattle.std.proofs.lemmas.Bool.{cases_lt}
use Rattle.pb_fixpoint.specs.Solution.{Environment}

-- how many of the list are in the set
abbrev pub tally : {I : Type 0} → Environment I → List I → ℕ
tally F [] = 0
tally F (x ∷ xs) = cond (F x) 1 0 + tally F xs

-- the sets agree on the list
abbrev pub Agree : {I : Type 0} → Environment I → Environment I → List I → Type 0
Agree F G [] = Unit {0}
Agree F G (x ∷ xs) = (F x ≡ G x) × Agree F G xs

one_step : (a b : Bool) → (a ≡ true → b ≡ true) → (cond a 1 0 ≤ cond b 1 0) × (cond b 1 0 ≤ cond a 1 0 → a ≡ b) × (cond b 1 0 ≤ 1)
one_step true true h = (omega arith, λ _. refl, omega arith)
one_step true false h = absurd (true≢false (sym (h refl)))
one_step false true h = (omega arith, λ le. absurd (omega arith), omega arith)
one_step false false h = (omega arith, λ _. refl, omega arith)

pub tally-le : {I : Type 0} (F G : Environment I) → ((i : I) → F i ≡ true → G i ≡ true) → (xs : List I) → tally F xs ≤ tally G xs
tally-le F G h [] = omega arith
tally-le F G h (x ∷ xs) = let s = one_step (F x) (G x) (h x) in omega (arith, tally-le F G h xs, s.0)

pub tally-le-length : {I : Type 0} (F : Environment I) (xs : List I) → tally F xs ≤ length xs
tally-le-length F [] = omega arith
tally-le-length F (x ∷ xs) = let s = one_step (F x) (F x) (λ e. e) in omega (arith, tally-le-length F xs, s.2)

-- a larger set with no more elements in the list is the same there
pub agree_by_tally : {I : Type 0} (F G : Environment I) → ((i : I) → F i ≡ true → G i ≡ true) → (xs : List I) → tally G xs ≤ tally F xs → Agree F G xs
agree_by_tally F G h [] le = tt
agree_by_tally F G h (x ∷ xs) le =
    let s = one_step (F x) (G x) (h x) in
    (s.1 (omega (arith, tally-le F G h xs)), agree_by_tally F G h xs (omega (arith, s.0)))

pub agree_at : {I : Type 0} (F G : Environment I) (xs : List I) → Agree F G xs → (k : ℕ) (d : I) → k < length xs → F (get_or xs k d) ≡ G (get_or xs k d)
agree_at F G [] a k d lt = absurd (omega arith)
agree_at F G (x ∷ xs) a zero d lt = a.0
agree_at F G (x ∷ xs) a (suc k) d lt = agree_at F G xs a.1 k d (omega arith)

-- so they agree at each element that the list contains
pub agree_contained : {I : Type 0} (F G : Environment I) (xs : List I) → Agree F G xs → (i : I) → Contains xs i → F i ≡ G i
agree_contained F G xs a i (k, lt, e) = ap F (sym e) ∙ (agree_at F G xs a k i lt ∙ ap G e)

-- A chain that rises, and that stands still once it did not rise on the list, stands still at the list's length.
pub record Rises {I : Type 0} (F : ℕ → Environment I) (xs : List I) : Type 0 where
  pub up : (n : ℕ) (i : I) → F n i ≡ true → F (suc n) i ≡ true
  pub rests : (n : ℕ) → Agree (F n) (F (suc n)) xs → Agree (F (suc n)) (F (suc (suc n))) xs

stands_or_grew : {I : Type 0} (F : ℕ → Environment I) (xs : List I) → Rises F xs → (n : ℕ) → Agree (F n) (F (suc n)) xs ⊎ (n ≤ tally (F n) xs)
stands_or_grew F xs r zero = inr (omega arith)
stands_or_grew F xs r (suc n) =
    elim (stands_or_grew F xs r n) [
      | inl a ↦ inl (r.rests n a)
      | inr le ↦ elim (cases_lt (tally (F n) xs) (tally (F (suc n)) xs)) [
        | inl lt ↦ inr (omega arith)
        | inr ge ↦ inl (r.rests n (agree_by_tally (F n) (F (suc n)) (r.up n) xs ge))
      ]
    ]

pub stands : {I : Type 0} (F : ℕ → Environment I) (xs : List I) → Rises F xs → Agree (F (length xs)) (F (suc (length xs))) xs
stands F xs r =
    elim (stands_or_grew F xs r (length xs)) [
      | inl a ↦ a
      | inr le ↦ agree_by_tally (F (length xs)) (F (suc (length xs))) (r.up (length xs)) xs (omega (arith, tally-le-length (F (suc (length xs))) xs))
    ]
