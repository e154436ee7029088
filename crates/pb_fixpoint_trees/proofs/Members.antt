-- Membership by recursion on the list, and which numbers the rising list of a list's numbers has.
use Rattle.std.proofs.Common.{◌≡◌, ℕ, zero, suc, ◌<◌, List, [], ◌∷◌, length, get_or, ◌⊎◌, inl, inr, sym, ◌∙◌, arith}
use Rattle.std.specs.Prelude.{Contains, nat_lt, ◌==◌}
use Rattle.std.proofs.lemmas.Bool.{cond_both, eqb-true}
use Rattle.pb_fixpoint_trees.specs.Game.{with_number, rising}

abbrev pub Among : {A : Type 0} → List A → A → Type 0
Among [] x = ⊥
Among (y ∷ ys) x = (y ≡ x) ⊎ Among ys x

among_at : {A : Type 0} (xs : List A) (x : A) (k : ℕ) → k < length xs → get_or xs k x ≡ x → Among xs x
among_at [] x k l e = absurd (omega arith)
among_at (y ∷ ys) x zero l e = inl e
among_at (y ∷ ys) x (suc k) l e = inr (among_at ys x k (omega arith) e)

pub among_of_contains : {A : Type 0} (xs : List A) (x : A) → Contains xs x → Among xs x
among_of_contains xs x h = among_at xs x h.0 h.1 h.2

pub contains_of_among : {A : Type 0} (xs : List A) (x : A) → Among xs x → Contains xs x
contains_of_among [] x h = absurd h
contains_of_among (y ∷ ys) x (inl e) = (0, omega arith, e)
contains_of_among (y ∷ ys) x (inr h) = let c = contains_of_among ys x h in let l = c.1 in (suc c.0, omega arith, c.2)

among_with : (n : ℕ) (xs : List ℕ) (w : ℕ) → (n ≡ w) ⊎ Among xs w → Among (with_number n xs) w
among_with n [] w h = h
among_with n (x ∷ xs) w h =
    cond_both (nat_lt n x) (n ∷ (x ∷ xs)) _ (λ ys. Among ys w) (λ _. h)
    (λ _. cond_both (n == x) (x ∷ xs) (x ∷ with_number n xs) (λ ys. Among ys w)
    (λ e. elim h [ inl is ↦ inl (sym (eqb-true n x e) ∙ is) | inr there ↦ there ])
    (λ _. elim h [
      | inl is ↦ inr (among_with n xs w (inl is))
      | inr there ↦ elim there [ inl is ↦ inl is | inr later ↦ inr (among_with n xs w (inr later)) ]
    ]))

among_from_with : (n : ℕ) (xs : List ℕ) (w : ℕ) → Among (with_number n xs) w → (n ≡ w) ⊎ Among xs w
among_from_with n [] w h = h
among_from_with n (x ∷ xs) w h =
    let P : List ℕ → Type 0 = λ ys. Among ys w → (n ≡ w) ⊎ Among (x ∷ xs) w in
    cond_both (nat_lt n x) (n ∷ (x ∷ xs)) _ P (λ _ k. k)
    (λ _. cond_both (n == x) (x ∷ xs) (x ∷ with_number n xs) P (λ _ k. inr k)
    (λ _ k. elim k [
      | inl is ↦ inr (inl is)
      | inr later ↦ elim (among_from_with n xs w later) [ inl is ↦ inl is | inr there ↦ inr (inr there) ]
    ])) h

pub among_rising : (xs : List ℕ) (w : ℕ) → Among xs w → Among (rising xs) w
among_rising [] w h = h
among_rising (x ∷ xs) w (inl e) = among_with x (rising xs) w (inl e)
among_rising (x ∷ xs) w (inr h) = among_with x (rising xs) w (inr (among_rising xs w h))

pub among_from_rising : (xs : List ℕ) (w : ℕ) → Among (rising xs) w → Among xs w
among_from_rising [] w h = h
among_from_rising (x ∷ xs) w h = elim (among_from_with x (rising xs) w h) [ inl e ↦ inl e | inr later ↦ inr (among_from_rising xs w later) ]
