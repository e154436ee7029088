-- All tuples of carriers are those with a value of each, each once, and there are as many as the product of the sizes.
use Rattle.std.proofs.Common.{◌≡◌, ℕ, zero, suc, ◌*◌, true, ◌&&◌, ◌||◌, List, [], ◌∷◌, ◌++◌, map, length, flat_map, Contains, ◌⊎◌, inl, inr, subst, refl, sym, ◌∙◌, ap, arith, true≢false, int_eq, length-append}
use Rattle.std.proofs.lemmas.Bool.Decides.{Decides-int_eq}
use Rattle.std.proofs.lemmas.Bool.{and_parts, or_cases, or_right}
use Rattle.std.proofs.lemmas.List.{length-map}
use Rattle.pb_base_values.specs.Carrier.{Carrier, Value, Tuple, contains, is_within, tuples, tuple_count}

-- x stands somewhere in the list
abbrev pub In : {A : Type 0} → A → List A → Type 0
In x [] = ⊥
In x (y ∷ ys) = (y ≡ x) ⊎ In x ys

in_left : {A : Type 0} (x : A) (xs ys : List A) → In x xs → In x (xs ++ ys)
in_left x [] ys h = absurd h
in_left x (y ∷ xs) ys (inl e) = inl e
in_left x (y ∷ xs) ys (inr h) = inr (in_left x xs ys h)

in_right : {A : Type 0} (x : A) (xs ys : List A) → In x ys → In x (xs ++ ys)
in_right x [] ys h = h
in_right x (y ∷ xs) ys h = inr (in_right x xs ys h)

pub in_map : {A B : Type 0} (f : A → B) (x : A) (xs : List A) → In x xs → In (f x) (map f xs)
in_map f x [] h = absurd h
in_map f x (y ∷ xs) (inl e) = inl (ap f e)
in_map f x (y ∷ xs) (inr h) = inr (in_map f x xs h)

in_flat_map : {A B : Type 0} (f : A → List B) (x : A) (y : B) (xs : List A) → In x xs → In y (f x) → In y (flat_map f xs)
in_flat_map f x y [] i h = absurd i
in_flat_map f x y (z ∷ xs) (inl e) h = in_left y (f z) (flat_map f xs) (subst (λ w. In y (f w)) (sym e) h)
in_flat_map f x y (z ∷ xs) (inr i) h = in_right y (f z) (flat_map f xs) (in_flat_map f x y xs i h)

pub in_contains : {A : Type 0} (x : A) (xs : List A) → In x xs → Contains xs x
in_contains x [] h = absurd h
in_contains x (y ∷ xs) (inl e) = (0, omega arith, e)
in_contains x (y ∷ xs) (inr h) = let p = in_contains x xs h in (suc p.0, omega (arith, p.1), p.2)

in_carrier : (c : Carrier) (v : Value) → contains c v ≡ true → In v c
in_carrier [] v e = absurd (true≢false (sym e))
in_carrier (u ∷ c) v e = elim (or_cases (int_eq u v) (contains c v) e) [ inl h ↦ inl ((Decides-int_eq u v).0 h) | inr h ↦ inr (in_carrier c v h) ]

pub in_tuples : (cs : List Carrier) (vs : Tuple) → is_within cs vs ≡ true → In vs (tuples cs)
in_tuples [] [] e = inl refl
in_tuples [] (v ∷ vs) e = absurd (true≢false (sym e))
in_tuples (c ∷ cs) [] e = absurd (true≢false (sym e))
in_tuples (c ∷ cs) (v ∷ vs) e =
    let p = and_parts (contains c v) (is_within cs vs) e in
    in_flat_map (λ (u : Value). map (λ (us : Tuple). u ∷ us) (tuples cs)) v (v ∷ vs) c (in_carrier c v p.0) (in_map (λ (us : Tuple). v ∷ us) vs (tuples cs) (in_tuples cs vs p.1))

length_fronts : (c : Carrier) (vs : List Tuple) → length (flat_map (λ (v : Value). map (λ (us : Tuple). v ∷ us) vs) c) ≡ length c * length vs
length_fronts [] vs = omega arith
length_fronts (v ∷ c) vs =
    length-append (map (λ (us : Tuple). v ∷ us) vs) (flat_map (λ (v : Value). map (λ (us : Tuple). v ∷ us) vs) c)
    ∙ (omega (arith, length-map vs (λ (us : Tuple). v ∷ us), length_fronts c vs))

pub length-tuples : (cs : List Carrier) → length (tuples cs) ≡ tuple_count cs
length-tuples [] = refl
length-tuples (c ∷ cs) = length_fronts c (tuples cs) ∙ ap (λ (n : ℕ). length c * n) (length-tuples cs)

-- ---- and back: what stands among the tuples has a value of each carrier

contains_in : {A : Type 0} (x : A) (xs : List A) → Contains xs x → In x xs
contains_in x [] (k, below, at) = absurd (omega (arith, below))
contains_in x (y ∷ xs) (zero, below, at) = inl at
contains_in x (y ∷ xs) (suc k, below, at) = inr (contains_in x xs (k, omega (arith, below), at))

pub in_append : {A : Type 0} (x : A) (xs ys : List A) → In x (xs ++ ys) → In x xs ⊎ In x ys
in_append x [] ys h = inr h
in_append x (y ∷ xs) ys (inl e) = inl (inl e)
in_append x (y ∷ xs) ys (inr h) = elim (in_append x xs ys h) [ inl i ↦ inl (inr i) | inr i ↦ inr i ]

pub from_map : {A B : Type 0} (f : A → B) (y : B) (xs : List A) → In y (map f xs) → (x : A) × In x xs × (f x ≡ y)
from_map f y [] h = absurd h
from_map f y (x ∷ xs) (inl e) = (x, inl refl, e)
from_map f y (x ∷ xs) (inr h) = let p = from_map f y xs h in (p.0, inr p.1, p.2)

pub from_flat_map : {A B : Type 0} (f : A → List B) (y : B) (xs : List A) → In y (flat_map f xs) → (x : A) × In x xs × In y (f x)
from_flat_map f y [] h = absurd h
from_flat_map f y (x ∷ xs) h = elim (in_append y (f x) (flat_map f xs) h)
    [ inl i ↦ (x, inl refl, i) | inr i ↦ let p = from_flat_map f y xs i in (p.0, inr p.1, p.2) ]

from_carrier : (c : Carrier) (v : Value) → In v c → contains c v ≡ true
from_carrier [] v h = absurd h
from_carrier (u ∷ c) v (inl e) = ap (λ b. b || contains c v) ((Decides-int_eq u v).1 e)
from_carrier (u ∷ c) v (inr h) = or_right (int_eq u v) (contains c v) (from_carrier c v h)

from_tuples : (cs : List Carrier) (vs : Tuple) → In vs (tuples cs) → is_within cs vs ≡ true
from_tuples [] vs (inl e) = subst (λ (us : Tuple). is_within [] us ≡ true) e refl
from_tuples [] vs (inr h) = absurd h
from_tuples (c ∷ cs) vs h =
    let p = from_flat_map (λ (u : Value). map (λ (us : Tuple). u ∷ us) (tuples cs)) vs c h in
    let q = from_map (λ (us : Tuple). p.0 ∷ us) vs (tuples cs) p.2 in
    subst (λ (us : Tuple). is_within (c ∷ cs) us ≡ true) q.2
    (ap (λ b. b && is_within cs q.0) (from_carrier c p.0 p.1) ∙ from_tuples cs q.0 q.1)

pub within_is_among : (cs : List Carrier) (vs : Tuple) → is_within cs vs ≡ true → Contains (tuples cs) vs
within_is_among cs vs e = in_contains vs (tuples cs) (in_tuples cs vs e)

pub among_is_within : (cs : List Carrier) (vs : Tuple) → Contains (tuples cs) vs → is_within cs vs ≡ true
among_is_within cs vs h = from_tuples cs vs (contains_in vs (tuples cs) h)
