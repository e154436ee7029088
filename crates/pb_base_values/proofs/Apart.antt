-- No tuple stands twice among the tuples of carriers in which no value stands twice.
use Rattle.std.proofs.Common.{◌≡◌, ◌≢◌, ℕ, zero, suc, ◌<◌, List, [], ◌∷◌, ◌++◌, map, length, get_or, flat_map, inl, inr, refl, sym, ◌∙◌, ap, subst, arith}
use Rattle.std.specs.Prelude.{All, AllPairs}
use Rattle.pb_base_values.specs.Carrier.{Carrier, Value, Tuple, tuples}
use Rattle.pb_base_values.proofs.Tuples.{In, in_append, from_map, from_flat_map}

-- each element differs from those behind it
abbrev Apart : {A : Type 0} → List A → Type 0
Apart [] = Unit {0}
Apart (x ∷ xs) = (In x xs → ⊥) × Apart xs

in_at : {A : Type 0} (xs : List A) (k : ℕ) (d : A) → k < length xs → In (get_or xs k d) xs
in_at [] k d below = absurd (omega (arith, below))
in_at (x ∷ xs) zero d below = inl refl
in_at (x ∷ xs) (suc k) d below = inr (in_at xs k d (omega arith))

place_of : {A : Type 0} (x d : A) (xs : List A) → In x xs → (k : ℕ) × (k < length xs) × (get_or xs k d ≡ x)
place_of x d [] h = absurd h
place_of x d (y ∷ xs) (inl e) = (0, omega arith, e)
place_of x d (y ∷ xs) (inr h) = let p = place_of x d xs h in (suc p.0, omega (arith, p.1), p.2)

pairs_from_apart : {A : Type 0} (xs : List A) → Apart xs → AllPairs (λ (x y : A). x ≢ y) xs
pairs_from_apart [] apart i j d lt below = absurd (omega (arith, below))
pairs_from_apart (x ∷ xs) apart zero zero d lt below = absurd (omega arith)
pairs_from_apart {A} (x ∷ xs) apart zero (suc j) d lt below = λ e. apart.0 (subst (λ (y : A). In y xs) (sym e) (in_at xs j d (omega arith)))
pairs_from_apart (x ∷ xs) apart (suc i) zero d lt below = absurd (omega arith)
pairs_from_apart (x ∷ xs) apart (suc i) (suc j) d lt below = pairs_from_apart xs apart.1 i j d (omega arith) (omega arith)

apart_from_pairs : {A : Type 0} (xs : List A) → AllPairs (λ (x y : A). x ≢ y) xs → Apart xs
apart_from_pairs [] pairs = tt
apart_from_pairs (x ∷ xs) pairs = (
  (λ h. let p = place_of x x xs h in pairs 0 (suc p.0) x (omega arith) (omega (arith, p.1)) (sym p.2)),
  apart_from_pairs xs (λ i j d lt below. pairs (suc i) (suc j) d (omega arith) (omega arith)),
)

apart-append : {A : Type 0} (xs ys : List A) → Apart xs → Apart ys → ((x : A) → In x xs → In x ys → ⊥) → Apart (xs ++ ys)
apart-append [] ys h k none = k
apart-append (x ∷ xs) ys h k none = (
  (λ i. elim (in_append x xs ys i) [ inl a ↦ h.0 a | inr b ↦ none x (inl refl) b ]),
  apart-append xs ys h.1 k (λ y a b. none y (inr a) b),
)

front_of : Tuple → Value → Value
front_of [] d = d
front_of (v ∷ vs) d = v

rest_of : Tuple → Tuple
rest_of [] = []
rest_of (v ∷ vs) = vs

same_front : (u v : Value) (us vs : Tuple) → u ∷ us ≡ v ∷ vs → u ≡ v
unfolding front_of
same_front u v us vs e = ap (λ (ws : Tuple). front_of ws u) e

same_rest : (u v : Value) (us vs : Tuple) → u ∷ us ≡ v ∷ vs → us ≡ vs
unfolding rest_of
same_rest u v us vs e = ap rest_of e

apart-fronts : (v : Value) (vs : List Tuple) → Apart vs → Apart (map (λ (us : Tuple). v ∷ us) vs)
apart-fronts v [] apart = tt
apart-fronts v (us ∷ vs) apart = (
  (λ i. let p = from_map (λ (ws : Tuple). v ∷ ws) (v ∷ us) vs i in apart.0 (subst (λ (ws : Tuple). In ws vs) (same_rest v v p.0 us p.2) p.1)),
  apart-fronts v vs apart.1,
)

apart-tuples_of : (c : Carrier) (vs : List Tuple) → Apart c → Apart vs → Apart (flat_map (λ (v : Value). map (λ (us : Tuple). v ∷ us) vs) c)
apart-tuples_of [] vs apart rest = tt
apart-tuples_of (v ∷ c) vs apart rest =
    apart-append (map (λ (us : Tuple). v ∷ us) vs) (flat_map (λ (u : Value). map (λ (us : Tuple). u ∷ us) vs) c)
    (apart-fronts v vs rest) (apart-tuples_of c vs apart.1 rest)
    (λ x here there.
    let p = from_map (λ (us : Tuple). v ∷ us) x vs here in
    let q = from_flat_map (λ (u : Value). map (λ (us : Tuple). u ∷ us) vs) x c there in
    let r = from_map (λ (us : Tuple). q.0 ∷ us) x vs q.2 in
    apart.0 (subst (λ (u : Value). In u c) (same_front q.0 v r.0 p.0 (r.2 ∙ sym p.2)) q.1))

pub tuples_apart : (carriers : List Carrier) → All (AllPairs (λ (u v : Value). u ≢ v)) carriers → AllPairs (λ (us vs : Tuple). us ≢ vs) (tuples carriers)
tuples_apart carriers h = pairs_from_apart (tuples carriers) (each carriers h)
  where
    each : (carriers : List Carrier) → All (AllPairs (λ (u v : Value). u ≢ v)) carriers → Apart (tuples carriers)
    each [] h = ((λ i. i), tt)
    each (c ∷ cs) h = apart-tuples_of c (tuples cs) (apart_from_pairs c (h zero c (omega arith))) (each cs (λ k d below. h (suc k) d (omega arith)))
