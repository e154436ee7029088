-- Elements of lists that were chosen, and what a test finds.
use Rattle.std.proofs.Common.{◌≡◌, ◌⊎◌, zero, suc, Bool, true, false, true≢false, ◌&&◌, ◌||◌, cond, List, [], ◌∷◌, ◌++◌, map, flat_map, refl, sym, ap, ◌∙◌, subst, inl, inr, arith}
use Rattle.std.specs.Prelude.{Contains, filter, Some}
use Rattle.std.specs.List.{find, list_any, list_all}
use Rattle.std.proofs.lemmas.Bool.{and_parts}

pub first_of : {A : Type 0} (x : A) (xs : List A) → Contains (x ∷ xs) x
first_of x xs = (zero, omega arith, refl)

pub later_of : {A : Type 0} (y : A) (xs : List A) (x : A) → Contains xs x → Contains (y ∷ xs) x
later_of y xs x h = (suc h.0, omega (arith, h.1), h.2)

-- an element is the first one, or one of the others
pub either_of : {A : Type 0} (y : A) (xs : List A) (x : A) → Contains (y ∷ xs) x → (y ≡ x) ⊎ Contains xs x
either_of y xs x (zero, below, at) = inl at
either_of y xs x (suc k, below, at) = inr (k, omega (arith, below), at)

pub mapped : {A B : Type 0} (f : A → B) (xs : List A) (x : A) → Contains xs x → Contains (map f xs) (f x)
mapped f [] x h = absurd (omega (arith, h.1))
mapped f (y ∷ ys) x h = elim (either_of y ys x h) [
  | inl e ↦ (zero, omega arith, ap f e)
  | inr later ↦ later_of (f y) (map f ys) (f x) (mapped f ys x later)
]

pub unfiltered : {A : Type 0} (test : A → Bool) (xs : List A) (x : A) → Contains (filter test xs) x → Contains xs x
unfiltered test [] x h = absurd (omega (arith, h.1))
unfiltered test (y ∷ ys) x h = by (test y) (λ later. unfiltered test ys x later) h
  where
    by : (b : Bool) → (Contains (filter test ys) x → Contains ys x) → Contains (cond b (y ∷ filter test ys) (filter test ys)) x → Contains (y ∷ ys) x
    by true others here = elim (either_of y (filter test ys) x here) [
      | inl e ↦ (zero, omega arith, e)
      | inr later ↦ later_of y ys x (others later)
    ]
    by false others here = later_of y ys x (others here)

pub passing : {A : Type 0} (test : A → Bool) (xs : List A) (x : A) → Contains xs x → test x ≡ true → Contains (filter test xs) x
passing test [] x h pass = absurd (omega (arith, h.1))
passing test (y ∷ ys) x h pass = by (test y) refl (λ later. passing test ys x later pass) (either_of y ys x h)
  where
    by : (b : Bool) → test y ≡ b → (Contains ys x → Contains (filter test ys) x) → (y ≡ x) ⊎ Contains ys x → Contains (cond b (y ∷ filter test ys) (filter test ys)) x
    by true e others (inl same) = (zero, omega arith, same)
    by true e others (inr later) = later_of y (filter test ys) x (others later)
    by false e others (inl same) = absurd (true≢false (sym pass ∙ ap test (sym same) ∙ e))
    by false e others (inr later) = others later

pub both-true : (b d : Bool) → b ≡ true → d ≡ true → (b && d) ≡ true
both-true true d e h = h
both-true false d e h = absurd (true≢false (sym e))

pub either_true : (b d : Bool) → (b || d) ≡ true → (b ≡ true) ⊎ (d ≡ true)
either_true true d e = inl refl
either_true false d e = inr e

-- an element that a test finds
pub some_of : {A : Type 0} (p : A → Bool) (xs : List A) → list_any p xs ≡ true → (x : A) × Contains xs x × (p x ≡ true)
some_of p [] e = absurd (true≢false (sym e))
some_of p (x ∷ xs) e = elim (either_true (p x) (list_any p xs) e) [
  | inl here ↦ (x, first_of x xs, here)
  | inr later ↦ let found = some_of p xs later in (found.0, later_of x xs found.0 found.1, found.2)
]

-- what is found passes
pub found_passes : {A : Type 0} (p : A → Bool) (xs : List A) (x : A) → find p xs ≡ Some x → p x ≡ true
found_passes p [] x e = cc
found_passes p (y ∷ ys) x e = by (p y) refl (λ later. found_passes p ys x later) e
  where
    by : (b : Bool) → p y ≡ b → (find p ys ≡ Some x → p x ≡ true) → cond b (Some y) (find p ys) ≡ Some x → p x ≡ true
    by true pass others found = let same : y ≡ x = cc in ap p (sym same) ∙ pass
    by false pass others found = others found

-- what a test finds in one of two lists
pub any-left : {A : Type 0} (p : A → Bool) (xs ys : List A) → list_any p xs ≡ true → list_any p (xs ++ ys) ≡ true
any-left p [] ys e = absurd (true≢false (sym e))
any-left p (x ∷ xs) ys e = by (p x) (λ later. any-left p xs ys later) e
  where
    by : (b : Bool) → (list_any p xs ≡ true → list_any p (xs ++ ys) ≡ true) → (b || list_any p xs) ≡ true → (b || list_any p (xs ++ ys)) ≡ true
    by true others e = refl
    by false others e = others e

pub any-right : {A : Type 0} (p : A → Bool) (xs ys : List A) → list_any p ys ≡ true → list_any p (xs ++ ys) ≡ true
any-right p [] ys e = e
any-right p (x ∷ xs) ys e = by (p x) (any-right p xs ys e)
  where
    by : (b : Bool) → list_any p (xs ++ ys) ≡ true → (b || list_any p (xs ++ ys)) ≡ true
    by true e = refl
    by false e = e

pub or-here : (b d : Bool) → b ≡ true → (b || d) ≡ true
or-here true d e = refl
or-here false d e = absurd (true≢false (sym e))

pub or-later : (b d : Bool) → d ≡ true → (b || d) ≡ true
or-later true d e = refl
or-later false d e = e

-- an element that passes is found
pub any-of : {A : Type 0} (p : A → Bool) (xs : List A) (x : A) → Contains xs x → p x ≡ true → list_any p xs ≡ true
any-of p [] x h pass = absurd (omega (arith, h.1))
any-of p (y ∷ ys) x h pass = elim (either_of y ys x h) [
  | inl e ↦ or-here (p y) (list_any p ys) (ap p e ∙ pass)
  | inr later ↦ or-later (p y) (list_any p ys) (any-of p ys x later pass)
]

-- and the first one that passes is found
pub first-of : {A : Type 0} (p : A → Bool) (xs : List A) (x : A) → Contains xs x → p x ≡ true → (y : A) × (find p xs ≡ Some y) × Contains xs y × (p y ≡ true)
first-of p [] x h pass = absurd (omega (arith, h.1))
first-of p (y ∷ ys) x h pass = by (p y) refl (λ later. first-of p ys x later pass) (either_of y ys x h)
  where
    by : (b : Bool) → p y ≡ b → (Contains ys x → (z : _) × (find p ys ≡ Some z) × Contains ys z × (p z ≡ true)) → (y ≡ x) ⊎ Contains ys x
        → (z : _) × (cond b (Some y) (find p ys) ≡ Some z) × Contains (y ∷ ys) z × (p z ≡ true)
    by true e others at = (y, refl, first_of y ys, e)
    by false e others (inl same) = absurd (true≢false (sym pass ∙ ap p (sym same) ∙ e))
    by false e others (inr later) = let found = others later in (found.0, found.1, later_of y ys found.0 found.2, found.3)

-- what was chosen passes
pub passes : {A : Type 0} (t : A → Bool) (xs : List A) (x : A) → Contains (filter t xs) x → t x ≡ true
passes t [] x h = absurd (omega (arith, h.1))
passes t (y ∷ ys) x h = by (t y) refl (λ later. passes t ys x later) h
  where
    by : (b : Bool) → t y ≡ b → (Contains (filter t ys) x → t x ≡ true) → Contains (cond b (y ∷ filter t ys) (filter t ys)) x → t x ≡ true
    by true e others here = elim (either_of y (filter t ys) x here) [ inl same ↦ sym (ap t same) ∙ e | inr later ↦ others later ]
    by false e others here = others here

-- what fails of all, fails of one
pub some-fails : {A : Type 0} (p : A → Bool) (xs : List A) → list_all p xs ≡ false → (x : A) × Contains xs x × (p x ≡ false)
some-fails p [] e = absurd (true≢false e)
some-fails p (x ∷ xs) e = by (p x) refl (λ later. some-fails p xs later) e
  where
    by : (b : Bool) → p x ≡ b → (list_all p xs ≡ false → (y : _) × Contains xs y × (p y ≡ false)) → (b && list_all p xs) ≡ false → (y : _) × Contains (x ∷ xs) y × (p y ≡ false)
    by true here others e = let found = others e in (found.0, later_of x xs found.0 found.1, found.2)
    by false here others e = (x, first_of x xs, here)

pub each-holds : {A : Type 0} (p : A → Bool) (xs : List A) (x : A) → list_all p xs ≡ true → Contains xs x → p x ≡ true
each-holds p [] x all h = absurd (omega (arith, h.1))
each-holds p (y ∷ ys) x all h =
    let parts = and_parts (p y) (list_all p ys) all in
    elim (either_of y ys x h) [ inl e ↦ sym (ap p e) ∙ parts.0 | inr later ↦ each-holds p ys x parts.1 later ]

pub in-either : {A : Type 0} (xs ys : List A) (x : A) → Contains (xs ++ ys) x → Contains xs x ⊎ Contains ys x
in-either [] ys x h = inr h
in-either (y ∷ xs) ys x h = elim (either_of y (xs ++ ys) x h) [
  | inl e ↦ inl (subst (λ z. Contains (y ∷ xs) z) e (first_of y xs))
  | inr later ↦ elim (in-either xs ys x later) [ inl here ↦ inl (later_of y xs x here) | inr there ↦ inr there ]
]

pub in-left : {A : Type 0} (xs ys : List A) (x : A) → Contains xs x → Contains (xs ++ ys) x
in-left [] ys x h = absurd (omega (arith, h.1))
in-left (y ∷ xs) ys x h = elim (either_of y xs x h) [
  | inl e ↦ subst (λ z. Contains (y ∷ (xs ++ ys)) z) e (first_of y (xs ++ ys))
  | inr later ↦ later_of y (xs ++ ys) x (in-left xs ys x later)
]

pub in-right : {A : Type 0} (xs ys : List A) (x : A) → Contains ys x → Contains (xs ++ ys) x
in-right [] ys x h = h
in-right (y ∷ xs) ys x h = later_of y (xs ++ ys) x (in-right xs ys x h)

pub in-some : {A B : Type 0} (f : A → List B) (xs : List A) (y : B) → Contains (flat_map f xs) y → (x : A) × Contains xs x × Contains (f x) y
in-some f [] y h = absurd (omega (arith, h.1))
in-some f (x ∷ xs) y h = elim (in-either (f x) (flat_map f xs) y h) [
  | inl here ↦ (x, first_of x xs, here)
  | inr there ↦ let found = in-some f xs y there in (found.0, later_of x xs found.0 found.1, found.2)
]

pub of-some : {A B : Type 0} (f : A → List B) (xs : List A) (x : A) (y : B) → Contains xs x → Contains (f x) y → Contains (flat_map f xs) y
of-some f [] x y h k = absurd (omega (arith, h.1))
of-some f (z ∷ xs) x y h k = elim (either_of z xs x h) [
  | inl e ↦ in-left (f z) (flat_map f xs) y (subst (λ w. Contains (f w) y) (sym e) k)
  | inr later ↦ in-right (f z) (flat_map f xs) y (of-some f xs x y later k)
]

pub of-mapped : {A B : Type 0} (f : A → B) (xs : List A) (y : B) → Contains (map f xs) y → (x : A) × Contains xs x × (f x ≡ y)
of-mapped f [] y h = absurd (omega (arith, h.1))
of-mapped f (x ∷ xs) y h = elim (either_of (f x) (map f xs) y h) [
  | inl e ↦ (x, first_of x xs, e)
  | inr later ↦ let found = of-mapped f xs y later in (found.0, later_of x xs found.0 found.1, found.2)
]
