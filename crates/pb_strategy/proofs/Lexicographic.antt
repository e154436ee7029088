-- The order of lists of numbers of one length by their first difference, and induction along it.
use Rattle.std.proofs.Common.{◌≡◌, ℕ, zero, suc, ◌<◌, ◌⊎◌, List, [], ◌∷◌, length, inl, inr, refl, sym, ap, ◌∙◌, subst, arith}

abbrev pub IsLess : List ℕ → List ℕ → Type 0
IsLess [] ys = ⊥
IsLess (x ∷ xs) [] = ⊥
IsLess (x ∷ xs) (y ∷ ys) = (x < y) ⊎ ((x ≡ y) × IsLess xs ys)

abbrev pub IsAtMost : List ℕ → List ℕ → Type 0
IsAtMost xs ys = IsLess xs ys ⊎ (xs ≡ ys)

pub less-trans : (xs ys zs : List ℕ) → IsLess xs ys → IsLess ys zs → IsLess xs zs
less-trans [] ys zs h k = absurd h
less-trans (x ∷ xs) [] zs h k = absurd h
less-trans (x ∷ xs) (y ∷ ys) [] h k = absurd k
less-trans (x ∷ xs) (y ∷ ys) (z ∷ zs) h k = elim h [
  | inl x<y ↦ elim k [ inl y<z ↦ inl (omega arith) | inr k' ↦ inl (let y=z = k'.0 in omega arith) ]
  | inr h' ↦ elim k [
    | inl y<z ↦ inl (let x=y = h'.0 in omega arith)
    | inr k' ↦ inr (h'.0 ∙ k'.0, less-trans xs ys zs h'.1 k'.1)
  ]
]

pub less_of_at_most : (xs ys zs : List ℕ) → IsAtMost xs ys → IsLess ys zs → IsLess xs zs
less_of_at_most xs ys zs (inl h) k = less-trans xs ys zs h k
less_of_at_most xs ys zs (inr e) k = subst (λ (us : List ℕ). IsLess us zs) (sym e) k

-- An induction on lists of n numbers, from what holds of all lesser ones
abbrev Step : ℕ → (List ℕ → Type 0) → Type 0
Step n P = (ys : List ℕ) → length ys ≡ n → ((zs : List ℕ) → length zs ≡ n → IsLess zs ys → P zs) → P ys

-- with the first number below k, where the shorter lists have the induction
by_head : (n : ℕ) → ((P : List ℕ → Type 0) → Step n P → (xs : List ℕ) → length xs ≡ n → P xs) →
    (P : List ℕ → Type 0) → Step (suc n) P → (k x : ℕ) → x < k → (xs : List ℕ) → length xs ≡ n → P (x ∷ xs)
by_head n ind P step zero x h xs e = absurd (omega arith)
by_head n ind P step (suc k) x h xs e =
    let lower = by_head n ind P step k in
    ind (λ ys. P (x ∷ ys)) (λ ys d below. step (x ∷ ys) (ap suc d) (go lower ys below)) xs e
  where
    go : ((y : ℕ) → y < k → (ys : List ℕ) → length ys ≡ n → P (y ∷ ys)) → (ys : List ℕ) →
        ((zs : List ℕ) → length zs ≡ n → IsLess zs ys → P (x ∷ zs)) →
        (zs : List ℕ) → length zs ≡ suc n → IsLess zs (x ∷ ys) → P zs
    go lower ys below [] d l = absurd l
    go lower ys below (z ∷ zs) d l = elim l [
      | inl z<x ↦ lower z (omega arith) zs (omega arith)
      | inr l' ↦ subst (λ w. P (w ∷ zs)) (sym l'.0) (below zs (omega arith) l'.1)
    ]

pub lexicographic : (n : ℕ) (P : List ℕ → Type 0) → Step n P → (xs : List ℕ) → length xs ≡ n → P xs
lexicographic zero P step [] e = step [] refl (λ zs d l. go zs d l)
  where
    go : (zs : List ℕ) → length zs ≡ 0 → IsLess zs [] → P zs
    go [] d l = absurd l
    go (z ∷ zs) d l = absurd l
lexicographic zero P step (x ∷ xs) e = absurd (omega arith)
lexicographic (suc n) P step [] e = absurd (omega arith)
lexicographic (suc n) P step (x ∷ xs) e = by_head n (lexicographic n) P step (suc x) x (omega arith) xs (omega arith)
