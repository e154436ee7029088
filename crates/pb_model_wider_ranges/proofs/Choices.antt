-- Truth values, lists of them, and what successors satisfy.
use Rattle.std.proofs.Common.{◌≡◌, Bool, true, false, true≢false, not, ◌&&◌, ◌||◌, inl, inr, if◌then◌else◌, List, [], ◌∷◌, refl, sym, ap, ◌∙◌}
use Rattle.std.specs.List.{list_any, list_all}
use Rattle.std.proofs.lemmas.Bool.{and_parts, and_from, or_cases, or_left, or_right}

pub same-choice : (b x : Bool) → (if b then x else x) ≡ x
same-choice true x = refl
same-choice false x = refl

-- true where it has to be
pub guarded : (b x : Bool) → (b ≡ true → x ≡ true) → (if b then x else true) ≡ true
guarded true x h = h refl
guarded false x h = refl

pub same-truth : (x y : Bool) → (x ≡ true → y ≡ true) → (y ≡ true → x ≡ true) → x ≡ y
same-truth true y h k = sym (h refl)
same-truth false true h k = k refl
same-truth false false h k = refl

-- x is at most y
abbrev pub Below : Bool → Bool → Type 0
Below x y = x ≡ true → y ≡ true

pub not-below : (x y : Bool) → Below y x → Below (not x) (not y)
not-below true y h e = absurd (true≢false (sym e))
not-below false true h e = absurd (true≢false (sym (h refl)))
not-below false false h e = refl

pub and-below : (x y u v : Bool) → Below x u → Below y v → Below (x && y) (u && v)
and-below x y u v h k e = let parts = and_parts x y e in and_from u v (h parts.0) (k parts.1)

pub or-below : (x y u v : Bool) → Below x u → Below y v → Below (x || y) (u || v)
or-below x y u v h k e = elim (or_cases x y e) [ inl l ↦ or_left u v (h l) | inr r ↦ or_right u v (k r) ]

-- what a successor satisfies, where more are states
pub choice-below : (b c x y z : Bool) → Below b c → (b ≡ true → Below x y) → Below z y → Below (if b then x else z) (if c then y else z)
choice-below true true x y z h k l = k refl
choice-below true false x y z h k l = absurd (true≢false (sym (h refl)))
choice-below false true x y z h k l = l
choice-below false false x y z h k l = λ e. e

module _ {X : Type 0} (p q : X → Bool) where
  pub all-below : ((x : X) → Below (p x) (q x)) → (xs : List X) → Below (list_all p xs) (list_all q xs)
  all-below h [] e = e
  all-below h (x ∷ xs) e = and-below (p x) (list_all p xs) (q x) (list_all q xs) (h x) (all-below h xs) e

  pub any-below : ((x : X) → Below (p x) (q x)) → (xs : List X) → Below (list_any p xs) (list_any q xs)
  any-below h [] e = e
  any-below h (x ∷ xs) e = or-below (p x) (list_any p xs) (q x) (list_any q xs) (h x) (any-below h xs) e

  -- the same of elements of a set
  pub all-same : (S : X → Bool) → ((x : X) → S x ≡ true → p x ≡ q x) → (xs : List X) → list_all S xs ≡ true → list_all p xs ≡ list_all q xs
  all-same S h [] e = refl
  all-same S h (x ∷ xs) e =
      let parts = and_parts (S x) (list_all S xs) e in
      ap (λ b. b && list_all p xs) (h x parts.0) ∙ ap (λ b. q x && b) (all-same S h xs parts.1)

  pub any-same : (S : X → Bool) → ((x : X) → S x ≡ true → p x ≡ q x) → (xs : List X) → list_all S xs ≡ true → list_any p xs ≡ list_any q xs
  any-same S h [] e = refl
  any-same S h (x ∷ xs) e =
      let parts = and_parts (S x) (list_all S xs) e in
      ap (λ b. b || list_any p xs) (h x parts.0) ∙ ap (λ b. q x || b) (any-same S h xs parts.1)
