-- Where indices are permuted, the element at an index is at the permuted one.
use Rattle.std.proofs.Common.{◌≡◌, ◌⊎◌, inl, inr, Bool, true, false, true≢false, ◌&&◌, ◌||◌, if◌then◌else◌, List, [], ◌∷◌, ◌++◌, map, length, drop, refl, sym, ap, ◌∙◌, subst}
use Rattle.std.specs.Ordering.{int_eq}
use Rattle.std.proofs.lemmas.Bool.Decides.{Decides-int_eq}
use Rattle.std.proofs.lemmas.Bool.{and_parts, or_left, or_right}
use Rattle.pb_base_values.specs.Carrier.{Value, Carrier, Tuple, contains, is_within}
use Rattle.pb_base_values.proofs.Tuples.{In, in_contains, among_is_within}
use Rattle.pb_text_meaning.specs.Syntax.{Name, Variable, Spec}
use Rattle.pb_text_meaning.specs.Sorts.{carrier_of}
use Rattle.pb_text_meaning.specs.Formula.{carriers_of}
use Rattle.pb_model_meaning.specs.Steps.{State}
use Rattle.pb_protocol_meaning.specs.Syntax.{StateVariable}
use Rattle.pb_protocol_meaning.specs.Steps.{indices_of}
use Rattle.pb_protocol_meaning.specs.Meaning.{are_as_many, same_values, inside, all_inside, value_beside}
use Rattle.pb_protocol_symmetry.specs.Permutation.{IsPermutation, AreElements, Kind, Element, Plain, kind_of, moved, all_moved, IsInKind, AreInKinds}
use Rattle.pb_protocol_symmetry.specs.States.{BeginsWithValues, HaveValues}
use Rattle.pb_protocol_symmetry.proofs.Carriers.{within, back-within, same_when_moved}
use Rattle.pb_protocol_symmetry.proofs.Terms.{kind-carrier}

-- ---- tuples that are the same

pub same-self : (i : Tuple) → same_values i i ≡ true
same-self [] = refl
same-self (v ∷ i) = ap (λ b. b && same_values i i) ((Decides-int_eq v v).1 refl) ∙ same-self i

pub same-tuples : (i j : Tuple) → same_values i j ≡ true → i ≡ j
same-tuples [] [] e = refl
same-tuples [] (w ∷ j) e = absurd (true≢false (sym e))
same-tuples (v ∷ i) [] e = absurd (true≢false (sym e))
same-tuples (v ∷ i) (w ∷ j) e =
    let h = and_parts (int_eq v w) (same_values i j) e in
    ap (λ u. u ∷ i) ((Decides-int_eq v w).0 h.0) ∙ ap (λ (k : Tuple). w ∷ k) (same-tuples i j h.1)

-- ---- inside a carrier

or_false : (b : Bool) → (b || false) ≡ true → b ≡ true
or_false true e = refl
or_false false e = e

inside-stays : (c : Carrier) (v : Value) → contains c v ≡ true → inside c v ≡ v
inside-stays [] v e = refl
inside-stays (u ∷ []) v e = (Decides-int_eq u v).0 (or_false (int_eq u v) e)
inside-stays (u ∷ w ∷ us) v e = by (int_eq u v) (int_eq v u) refl refl (inside-stays (w ∷ us) v) e
  where
    by : (a b : Bool) → int_eq u v ≡ a → int_eq v u ≡ b → (contains (w ∷ us) v ≡ true → inside (w ∷ us) v ≡ v) → (a || contains (w ∷ us) v) ≡ true → (if b then u else inside (w ∷ us) v) ≡ v
    by a true h k rest e = sym ((Decides-int_eq v u).0 k)
    by true false h k rest e = absurd (true≢false (sym ((Decides-int_eq v u).1 (sym ((Decides-int_eq u v).0 h))) ∙ k))
    by false false h k rest e = rest e

pub inside-contained : (c : Carrier) (u v : Value) → contains c u ≡ true → contains c (inside c v) ≡ true
inside-contained [] u v e = absurd (true≢false (sym e))
inside-contained (w ∷ []) u v e = or_left (int_eq w w) false ((Decides-int_eq w w).1 refl)
inside-contained (w ∷ x ∷ us) u v e =
    by (int_eq v w) (inside-contained (x ∷ us) x v (or_left (int_eq x x) (contains us x) ((Decides-int_eq x x).1 refl)))
  where
    by : (b : Bool) → contains (x ∷ us) (inside (x ∷ us) v) ≡ true → contains (w ∷ x ∷ us) (if b then w else inside (x ∷ us) v) ≡ true
    by true h = or_left (int_eq w w) (contains (x ∷ us) w) ((Decides-int_eq w w).1 refl)
    by false h = or_right (int_eq w (inside (x ∷ us) v)) (contains (x ∷ us) (inside (x ∷ us) v)) h

-- ---- values beside indices

pub beside-map : (g : Tuple → Value) (is : List Tuple) (rest : State) (j : Tuple) → In j is → value_beside is (map g is ++ rest) j ≡ g j
beside-map g [] rest j h = absurd h
beside-map g (i ∷ is) rest j h = by (same_values i j) refl (tail h) (beside-map g is rest j)
  where
    tail : (i ≡ j) ⊎ In j is → same_values i j ≡ false → In j is
    tail (inl e) f = absurd (true≢false (sym (ap (same_values i) (sym e) ∙ same-self i) ∙ f))
    tail (inr k) f = k

    by : (b : Bool) → same_values i j ≡ b → (same_values i j ≡ false → In j is) → (In j is → value_beside is (map g is ++ rest) j ≡ g j) →
        (if b then g i else value_beside is (map g is ++ rest) j) ≡ g j
    by true e later next = ap g (same-tuples i j e)
    by false e later next = next (later e)

pub beside-contained : (c : Carrier) (is : List Tuple) (s : State) → BeginsWithValues c is s → (j : Tuple) → In j is → contains c (value_beside is s j) ≡ true
beside-contained c [] s b j h = absurd h
beside-contained c (i ∷ is) [] b j h = absurd b
beside-contained c (i ∷ is) (v ∷ s) b j h = by (same_values i j) refl (tail h) (beside-contained c is s b.1 j)
  where
    tail : (i ≡ j) ⊎ In j is → same_values i j ≡ false → In j is
    tail (inl e) f = absurd (true≢false (sym (ap (same_values i) (sym e) ∙ same-self i) ∙ f))
    tail (inr k) f = k

    by : (d : Bool) → same_values i j ≡ d → (same_values i j ≡ false → In j is) → (In j is → contains c (value_beside is s j) ≡ true) → contains c (if d then v else value_beside is s j) ≡ true
    by true e later rest = b.0
    by false e later rest = rest (later e)

pub dropped : (g : Tuple → Value) (is : List Tuple) (rest : State) → drop (length is) (map g is ++ rest) ≡ rest
dropped g [] rest = refl
dropped g (i ∷ is) rest = dropped g is rest

-- ---- permuted indices

module _ (spec : Spec) (sort : Name) (M : Carrier) (p back : Value → Value)
    (permutes : IsPermutation M p back) (elements : AreElements (carrier_of spec sort) M) where
  abbrev C : Carrier
  C = carrier_of spec sort

  inside-moved : (k : Kind) (c : Carrier) → (k ≡ Element → c ≡ C) → (v : Value) → IsInKind C k v → inside c (moved p k v) ≡ moved p k (inside c v)
  inside-moved Plain c same v h = refl
  inside-moved Element c same v h =
      subst (λ (d : Carrier). inside d (p v) ≡ p (inside d v)) (sym (same refl))
      (inside-stays C (p v) (within C M p back permutes elements v h) ∙ ap p (sym (inside-stays C v h)))

  pub all_inside-moved : (xs : List Variable) (vs : Tuple) → AreInKinds C sort xs vs →
      all_inside (carriers_of spec xs) (all_moved sort p xs vs) ≡ all_moved sort p xs (all_inside (carriers_of spec xs) vs)
  all_inside-moved [] [] h = refl
  all_inside-moved [] (v ∷ vs) h = absurd h
  all_inside-moved (x ∷ xs) [] h = absurd h
  all_inside-moved (x ∷ xs) (v ∷ vs) h =
      let c = carrier_of spec x.sort in
      let k = kind_of sort x.sort in
      ap (λ u. u ∷ all_inside (carriers_of spec xs) (all_moved sort p xs vs)) (inside-moved k c (kind-carrier spec sort M p back permutes elements x.sort) v h.0) ∙
      ap (λ (us : Tuple). moved p k (inside c v) ∷ us) (all_inside-moved xs vs h.1)

  moved-back : (k : Kind) (v : Value) → moved back k (moved p k v) ≡ v
  moved-back Element v = permutes.here v
  moved-back Plain v = refl

  pub all_moved-back : (xs : List Variable) (vs : Tuple) → all_moved sort back xs (all_moved sort p xs vs) ≡ vs
  all_moved-back [] vs = refl
  all_moved-back (x ∷ xs) [] = refl
  all_moved-back (x ∷ xs) (v ∷ vs) =
      ap (λ u. u ∷ all_moved sort back xs (all_moved sort p xs vs)) (moved-back (kind_of sort x.sort) v) ∙
      ap (λ (us : Tuple). v ∷ us) (all_moved-back xs vs)

  pub as-many : (xs : List Variable) (vs : Tuple) → AreInKinds C sort xs vs → are_as_many xs vs ≡ true
  as-many [] [] h = refl
  as-many [] (v ∷ vs) h = absurd h
  as-many (x ∷ xs) [] h = absurd h
  as-many (x ∷ xs) (v ∷ vs) h = as-many xs vs h.1

  pub as-many-moved : (xs : List Variable) (vs : Tuple) → are_as_many xs (all_moved sort p xs vs) ≡ are_as_many xs vs
  as-many-moved [] vs = refl
  as-many-moved (x ∷ xs) [] = refl
  as-many-moved (x ∷ xs) (v ∷ vs) = as-many-moved xs vs

  -- values inside their carriers
  pub inside-within : (xs : List Variable) (vs : Tuple) → HaveValues spec xs → are_as_many xs vs ≡ true → is_within (carriers_of spec xs) (all_inside (carriers_of spec xs) vs) ≡ true
  inside-within [] [] have e = refl
  inside-within [] (v ∷ vs) have e = absurd (true≢false (sym e))
  inside-within (x ∷ xs) [] have e = absurd (true≢false (sym e))
  inside-within (x ∷ xs) (v ∷ vs) have e =
      let c = carrier_of spec x.sort in
      ap (λ b. b && is_within (carriers_of spec xs) (all_inside (carriers_of spec xs) vs)) (inside-contained c have.0.0 v have.0.1) ∙
      inside-within xs vs have.1 e

  pub inside-twice : (xs : List Variable) (vs : Tuple) → is_within (carriers_of spec xs) vs ≡ true → all_inside (carriers_of spec xs) vs ≡ vs
  inside-twice [] [] e = refl
  inside-twice [] (v ∷ vs) e = absurd (true≢false (sym e))
  inside-twice (x ∷ xs) [] e = absurd (true≢false (sym e))
  inside-twice (x ∷ xs) (v ∷ vs) e =
      let h = and_parts (contains (carrier_of spec x.sort) v) (is_within (carriers_of spec xs) vs) e in
      ap (λ u. u ∷ all_inside (carriers_of spec xs) vs) (inside-stays (carrier_of spec x.sort) v h.0) ∙
      ap (λ (us : Tuple). v ∷ us) (inside-twice xs vs h.1)

  there-back : (k : Kind) (v : Value) → moved p k (moved back k v) ≡ v
  there-back Element v = permutes.there v
  there-back Plain v = refl

  pub all-there-back : (xs : List Variable) (vs : Tuple) → all_moved sort p xs (all_moved sort back xs vs) ≡ vs
  all-there-back [] vs = refl
  all-there-back (x ∷ xs) [] = refl
  all-there-back (x ∷ xs) (v ∷ vs) =
      ap (λ u. u ∷ all_moved sort p xs (all_moved sort back xs vs)) (there-back (kind_of sort x.sort) v) ∙
      ap (λ (us : Tuple). v ∷ us) (all-there-back xs vs)

  back-contained : (k : Kind) (c : Carrier) → (k ≡ Element → c ≡ C) → (v : Value) → contains c v ≡ true → contains c (moved back k v) ≡ true
  back-contained Plain c same v h = h
  back-contained Element c same v h =
      subst (λ (d : Carrier). contains d (back v) ≡ true) (sym (same refl))
      (back-within C M p back permutes elements v (subst (λ (d : Carrier). contains d v ≡ true) (same refl) h))

  -- an index that is moved back is one too
  pub all-back-within : (xs : List Variable) (vs : Tuple) → is_within (carriers_of spec xs) vs ≡ true → is_within (carriers_of spec xs) (all_moved sort back xs vs) ≡ true
  all-back-within [] vs e = e
  all-back-within (x ∷ xs) [] e = absurd (true≢false (sym e))
  all-back-within (x ∷ xs) (v ∷ vs) e =
      let h = and_parts (contains (carrier_of spec x.sort) v) (is_within (carriers_of spec xs) vs) e in
      ap (λ b. b && is_within (carriers_of spec xs) (all_moved sort back xs vs))
      (back-contained (kind_of sort x.sort) (carrier_of spec x.sort) (kind-carrier spec sort M p back permutes elements x.sort) v h.0) ∙
      all-back-within xs vs h.1

  pub same-one : (k : Kind) (v w : Value) → int_eq (moved p k v) (moved p k w) ≡ int_eq v w
  same-one Element v w = same_when_moved C M p back permutes elements v w
  same-one Plain v w = refl

  pub same_values-moved : (xs : List Variable) (vs ws : Tuple) → same_values (all_moved sort p xs vs) (all_moved sort p xs ws) ≡ same_values vs ws
  same_values-moved [] vs ws = refl
  same_values-moved (x ∷ xs) [] [] = refl
  same_values-moved (x ∷ xs) [] (w ∷ ws) = refl
  same_values-moved (x ∷ xs) (v ∷ vs) [] = refl
  same_values-moved (x ∷ xs) (v ∷ vs) (w ∷ ws) =
      ap (λ b. b && same_values (all_moved sort p xs vs) (all_moved sort p xs ws)) (same-one (kind_of sort x.sort) v w) ∙
      ap (λ b. int_eq v w && b) (same_values-moved xs vs ws)

  -- an index of a variable, and the one from which it is moved
  index-within : (y : StateVariable) (i : Tuple) → In i (indices_of spec y) → is_within (carriers_of spec y.indices) i ≡ true
  index-within y i here = among_is_within (carriers_of spec y.indices) i (in_contains i (indices_of spec y) here)

  pub origin-within : (y : StateVariable) (i : Tuple) → In i (indices_of spec y) → is_within (carriers_of spec y.indices) (all_moved sort back y.indices i) ≡ true
  origin-within y i here = all-back-within y.indices i (index-within y i here)
