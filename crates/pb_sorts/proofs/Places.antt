-- What stands at a place of a list: of `++`, of `map`, and of tuples with each value of a carrier in front. And the
-- list from a place on.
use Rattle.std.proofs.Common.{◌≡◌, ℕ, zero, suc, ◌+◌, ◌*◌, List, [], ◌∷◌, ◌++◌, map, length, flat_map, Some, ◌⊎◌, inl, inr, refl, ◌∙◌, ap, arith, ◌<◌, drop, get_or, sym}
use Rattle.std.specs.List.{slice_get}
use Rattle.std.proofs.lemmas.Option.{none-some, same_Some, slice_get_within, get_or_from_slice_get}
use Rattle.std.proofs.lemmas.List.{drop_more}

pub slice_get-append_left : {X : Type 0} (xs ys : List X) (n : ℕ) (x : X) → slice_get xs n ≡ Some x → slice_get (xs ++ ys) n ≡ Some x
slice_get-append_left [] ys n x e = absurd (none-some x e)
slice_get-append_left (y ∷ xs) ys zero x e = e
slice_get-append_left (y ∷ xs) ys (suc n) x e = slice_get-append_left xs ys n x e

pub slice_get-append_right : {X : Type 0} (xs ys : List X) (m n : ℕ) → m ≡ length xs + n → slice_get (xs ++ ys) m ≡ slice_get ys n
slice_get-append_right [] ys m n e = ap (slice_get ys) (omega (arith, e))
slice_get-append_right (y ∷ xs) ys zero n e = absurd (omega (arith, e))
slice_get-append_right (y ∷ xs) ys (suc m) n e = slice_get-append_right xs ys m n (omega (arith, e))

-- a place of `xs ++ ys` is one of xs, or one of ys after xs
pub record IsPlaceAfter {X : Type 0} (xs ys : List X) (m : ℕ) (x : X) : Type 0 where
  pub place : ℕ
  pub after : m ≡ length xs + place
  pub at : slice_get ys place ≡ Some x

pub append_cases : {X : Type 0} (xs ys : List X) (m : ℕ) (x : X) → slice_get (xs ++ ys) m ≡ Some x → (slice_get xs m ≡ Some x) ⊎ IsPlaceAfter xs ys m x
append_cases [] ys m x e = inr (record { place = m; after = omega arith; at = e })
append_cases (y ∷ xs) ys zero x e = inl e
append_cases (y ∷ xs) ys (suc m) x e =
    elim (append_cases xs ys m x e) [ inl h ↦ inl h | inr h ↦ inr (record { place = h.place; after = omega (arith, h.after); at = h.at }) ]

pub slice_get-mapped : {X Y : Type 0} (f : X → Y) (xs : List X) (n : ℕ) (x : X) → slice_get xs n ≡ Some x → slice_get (map f xs) n ≡ Some (f x)
slice_get-mapped f [] n x e = absurd (none-some x e)
slice_get-mapped f (y ∷ xs) zero x e = ap (λ z. Some (f z)) (same_Some y x e)
slice_get-mapped f (y ∷ xs) (suc n) x e = slice_get-mapped f xs n x e

pub record IsImage {X Y : Type 0} (f : X → Y) (xs : List X) (n : ℕ) (y : Y) : Type 0 where
  pub source : X
  pub at : slice_get xs n ≡ Some source
  pub image : f source ≡ y

pub map_cases : {X Y : Type 0} (f : X → Y) (xs : List X) (n : ℕ) (y : Y) → slice_get (map f xs) n ≡ Some y → IsImage f xs n y
map_cases f [] n y e = absurd (none-some y e)
map_cases f (x ∷ xs) zero y e = record { source = x; at = refl; image = same_Some (f x) y e }
map_cases f (x ∷ xs) (suc n) y e =
    let rest : IsImage f xs n y = map_cases f xs n y e in
    record { source = rest.source; at = rest.at; image = rest.image }

pub map_length : {X Y : Type 0} (f : X → Y) (xs : List X) → length (map f xs) ≡ length xs
map_length f [] = refl
map_length f (x ∷ xs) = ap suc (map_length f xs)

-- ---- the list from a place on

pub drop-at : {X : Type 0} (xs : List X) (k : ℕ) (x : X) → k < length xs → x ≡ get_or xs k x → drop k xs ≡ x ∷ drop (k + 1) xs
drop-at xs k x below is = drop_more xs k x below ∙ ap (λ y. y ∷ drop (k + 1) xs) (sym is)

pub drop-slice_get : {X : Type 0} (xs : List X) (k : ℕ) (x : X) → slice_get xs k ≡ Some x → drop k xs ≡ x ∷ drop (k + 1) xs
drop-slice_get xs k x e = drop-at xs k x (slice_get_within xs k x e) (sym (get_or_from_slice_get xs k x x e))

-- ---- lists with each of some values in front of each of some lists

abbrev pub fronts : {X : Type 0} → List X → List (List X) → List (List X)
fronts c ts = flat_map (λ v. map (λ vs. v ∷ vs) ts) c

pub slice_get-fronts : {X : Type 0} (c : List X) (ts : List (List X)) (q r n : ℕ) (v : X) (vs : List X)
    → slice_get c q ≡ Some v → slice_get ts r ≡ Some vs → n ≡ q * length ts + r → slice_get (fronts c ts) n ≡ Some (v ∷ vs)
slice_get-fronts [] ts q r n v vs at_q at_r e = absurd (none-some v at_q)
slice_get-fronts {X} (u ∷ c) ts zero r n v vs at_q at_r e =
    let same : n ≡ r = omega (arith, e) in
    let front : u ≡ v = same_Some u v at_q in
    slice_get-append_left (map (λ (ws : List X). u ∷ ws) ts) (fronts c ts) n (v ∷ vs)
    (ap (slice_get (map (λ (ws : List X). u ∷ ws) ts)) same ∙ (slice_get-mapped (λ (ws : List X). u ∷ ws) ts r vs at_r ∙ ap (λ (w : X). Some (w ∷ vs)) front))
slice_get-fronts {X} (u ∷ c) ts (suc q) r n v vs at_q at_r e =
    slice_get-append_right (map (λ (ws : List X). u ∷ ws) ts) (fronts c ts) n (q * length ts + r) (omega (arith, e, map_length (λ (ws : List X). u ∷ ws) ts))
    ∙ slice_get-fronts c ts q r (q * length ts + r) v vs at_q at_r refl

-- a place among the fronts has a value in front, at a place of its own, and a list behind
pub record IsFront {X : Type 0} (c : List X) (ts : List (List X)) (n : ℕ) (ws : List X) : Type 0 where
  pub value : X
  pub rest : List X
  pub value_place : ℕ
  pub rest_place : ℕ
  pub parts : value ∷ rest ≡ ws
  pub value_at : slice_get c value_place ≡ Some value
  pub rest_at : slice_get ts rest_place ≡ Some rest
  pub place : n ≡ value_place * length ts + rest_place

pub fronts_cases : {X : Type 0} (c : List X) (ts : List (List X)) (n : ℕ) (ws : List X) → slice_get (fronts c ts) n ≡ Some ws → IsFront c ts n ws
fronts_cases [] ts n ws e = absurd (none-some ws e)
fronts_cases {X} (u ∷ c) ts n ws e =
    elim (append_cases (map (λ (vs : List X). u ∷ vs) ts) (fronts c ts) n ws e) [
      | inl h ↦
          (let image : IsImage (λ (vs : List X). u ∷ vs) ts n ws = map_cases (λ (vs : List X). u ∷ vs) ts n ws h in
          record { value = u; rest = image.source; value_place = 0; rest_place = n; parts = image.image; value_at = refl; rest_at = image.at; place = omega arith })
      | inr h ↦
          (let deeper : IsFront c ts h.place ws = fronts_cases c ts h.place ws h.at in
          record {
            value = deeper.value;
            rest = deeper.rest;
            value_place = suc deeper.value_place;
            rest_place = deeper.rest_place;
            parts = deeper.parts;
            value_at = deeper.value_at;
            rest_at = deeper.rest_at;
            place = omega (arith, h.after, deeper.place, map_length (λ (vs : List X). u ∷ vs) ts);
          })
    ]
