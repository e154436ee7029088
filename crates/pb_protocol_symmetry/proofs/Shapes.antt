-- A permuted state is a state exactly where the state is one.
use Rattle.std.proofs.Common.{◌≡◌, inl, inr, Bool, true, false, true≢false, if◌then◌else◌, List, [], ◌∷◌, ◌++◌, map, flat_map, length, drop, refl, sym, ap, ◌∙◌, subst, arith}
use Rattle.std.specs.Prelude.{⊤}
use Rattle.std.proofs.lemmas.Bool.{and_from, and_parts}
use Rattle.pb_base_values.specs.Carrier.{Value, Carrier, Tuple, contains, is_within}
use Rattle.pb_base_values.proofs.Tuples.{In, in_tuples, in_contains, among_is_within}
use Rattle.pb_text_meaning.specs.Syntax.{Name, Spec}
use Rattle.pb_text_meaning.specs.Sorts.{carrier_of}
use Rattle.pb_text_meaning.specs.Formula.{carriers_of}
use Rattle.pb_model_meaning.specs.Steps.{State}
use Rattle.pb_protocol_meaning.specs.Syntax.{StateVariable, Protocol}
use Rattle.pb_protocol_meaning.specs.Meaning.{same_values, value_beside}
use Rattle.pb_protocol_meaning.specs.Steps.{data_of, indices_of, Position, positions_of, Update, state_after}
use Rattle.pb_protocol_symmetry.specs.Permutation.{IsPermutation, AreElements, Kind, Element, Plain, kind_of, moved, all_moved}
use Rattle.pb_protocol_symmetry.specs.States.{permuted, BeginsWithValues, AreValues}
use Rattle.pb_protocol_symmetry.proofs.Distinct.{AreOnce, indices-once}
use Rattle.pb_protocol_symmetry.proofs.Carriers.{same_by, within}
use Rattle.pb_protocol_symmetry.proofs.Terms.{kind-carrier}
use Rattle.pb_protocol_symmetry.proofs.Elements.{origin-within, same-self, same-tuples, beside-map, beside-contained, inside-twice, all-back-within, all_moved-back, dropped}
use Rattle.pb_protocol_symmetry.proofs.States.{taken}
use Rattle.pb_protocol_symmetry.proofs.Steps.{map-same, place}

-- ---- as many values as places

abbrev pub BeginsWith : List Tuple → State → Type 0
BeginsWith [] s = ⊤
BeginsWith (i ∷ is) [] = ⊥
BeginsWith (i ∷ is) (v ∷ s) = BeginsWith is s

abbrev pub HasShape : Spec → List StateVariable → State → Type 0
HasShape spec [] s = s ≡ []
HasShape spec (y ∷ ys) s = BeginsWith (indices_of spec y) s × HasShape spec ys (drop (length (indices_of spec y)) s)

begins : (c : Carrier) (is : List Tuple) (s : State) → BeginsWithValues c is s → BeginsWith is s
begins c [] s h = tt
begins c (i ∷ is) [] h = absurd h
begins c (i ∷ is) (v ∷ s) h = begins c is s h.1

pub shape-of : (spec : Spec) (ys : List StateVariable) (s : State) → AreValues spec ys s → HasShape spec ys s
shape-of spec [] s h = h
shape-of spec (y ∷ ys) s h = (begins (carrier_of spec y.sort) (indices_of spec y) s h.0, shape-of spec ys (drop (length (indices_of spec y)) s) h.1)

-- as many values as places
pub shape-by : (spec : Spec) (ys : List StateVariable) (s : State) → length s ≡ length (flat_map (positions_of spec) ys) → HasShape spec ys s
shape-by spec [] [] e = refl
shape-by spec [] (v ∷ s) e = absurd (omega (arith, e))
shape-by spec (y ∷ ys) s e =
    let r = begins-by (indices_of spec y) s e in
    (r.0, shape-by spec ys (drop (length (indices_of spec y)) s) r.1)
  where
    begins-by : (is : List Tuple) (s : State) → length s ≡ length (map (place y) is ++ flat_map (positions_of spec) ys) →
        BeginsWith is s × (length (drop (length is) s) ≡ length (flat_map (positions_of spec) ys))
    begins-by [] s e = (tt, e)
    begins-by (i ∷ is) [] e = absurd (omega (arith, e))
    begins-by (i ∷ is) (v ∷ s) e = begins-by is s (omega (arith, e))

-- ---- states are values

module _ (spec : Spec) where
  abbrev pub carriers : List Position → List Carrier
  carriers ps = map (λ (q : Position). carrier_of spec q.sort) ps

  from-within : (y : StateVariable) (is : List Tuple) (ps : List Position) (s : State) → is_within (carriers (map (place y) is ++ ps)) s ≡ true →
      BeginsWithValues (carrier_of spec y.sort) is s × (is_within (carriers ps) (drop (length is) s) ≡ true)
  from-within y [] ps s e = (tt, e)
  from-within y (i ∷ is) ps [] e = absurd (true≢false (sym e))
  from-within y (i ∷ is) ps (v ∷ s) e =
      let h = and_parts (contains (carrier_of spec y.sort) v) (is_within (carriers (map (place y) is ++ ps)) s) e in
      let r = from-within y is ps s h.1 in
      ((h.0, r.0), r.1)

  to-within : (y : StateVariable) (is : List Tuple) (ps : List Position) (s : State) → BeginsWithValues (carrier_of spec y.sort) is s →
      is_within (carriers ps) (drop (length is) s) ≡ true → is_within (carriers (map (place y) is ++ ps)) s ≡ true
  to-within y [] ps s h e = e
  to-within y (i ∷ is) ps [] h e = absurd h
  to-within y (i ∷ is) ps (v ∷ s) h e =
      and_from (contains (carrier_of spec y.sort) v) (is_within (carriers (map (place y) is ++ ps)) s) h.0 (to-within y is ps s h.1 e)

  pub values-of : (ys : List StateVariable) (s : State) → is_within (carriers (flat_map (positions_of spec) ys)) s ≡ true → AreValues spec ys s
  values-of [] [] e = refl
  values-of [] (v ∷ s) e = absurd (true≢false (sym e))
  values-of (y ∷ ys) s e =
      let h = from-within y (indices_of spec y) (flat_map (positions_of spec) ys) s e in
      (h.0, values-of ys (drop (length (indices_of spec y)) s) h.1)

  pub state-of : (ys : List StateVariable) (s : State) → AreValues spec ys s → is_within (carriers (flat_map (positions_of spec) ys)) s ≡ true
  state-of [] s h = ap (is_within []) h
  state-of (y ∷ ys) s h =
      to-within y (indices_of spec y) (flat_map (positions_of spec) ys) s h.0 (state-of ys (drop (length (indices_of spec y)) s) h.1)

-- ---- the shape of what comes after updates

module _ (us : List Update) where
  begins-after : (y : StateVariable) (is : List Tuple) (ps : List Position) (s : State) → BeginsWith is s → BeginsWith is (state_after us (map (place y) is ++ ps) s)
  begins-after y [] ps s h = tt
  begins-after y (i ∷ is) ps [] h = absurd h
  begins-after y (i ∷ is) ps (v ∷ s) h = begins-after y is ps s h

  pub shape-after : (spec : Spec) (ys : List StateVariable) (s : State) → HasShape spec ys s → HasShape spec ys (state_after us (flat_map (positions_of spec) ys) s)
  shape-after spec [] s h = refl
  shape-after spec (y ∷ ys) s h = (
    begins-after y (indices_of spec y) (flat_map (positions_of spec) ys) s h.0,
    subst (HasShape spec ys) (sym (drops y (indices_of spec y) (flat_map (positions_of spec) ys) s h.0)) (shape-after spec ys (drop (length (indices_of spec y)) s) h.1),
  )
    where
      drops : (y : StateVariable) (is : List Tuple) (ps : List Position) (s : State) → BeginsWith is s →
          drop (length is) (state_after us (map (place y) is ++ ps) s) ≡ state_after us ps (drop (length is) s)
      drops y [] ps s h = refl
      drops y (i ∷ is) ps [] h = absurd h
      drops y (i ∷ is) ps (v ∷ s) h = drops y is ps s h

-- ---- permuted states

pub turned : (M : Carrier) (p back : Value → Value) → IsPermutation M p back → IsPermutation M back p
turned M p back permutes = record {
  there = permutes.here;
  here = permutes.there;
  fixes = λ v h. ap back (sym (permutes.fixes v h)) ∙ permutes.here v;
}

module _ (spec : Spec) (sort : Name) (M : Carrier) (p back : Value → Value)
    (permutes : IsPermutation M p back) (elements : AreElements (carrier_of spec sort) M) where
  abbrev C : Carrier
  C = carrier_of spec sort

  moved-contained : (k : Kind) (c : Carrier) → (k ≡ Element → c ≡ C) → (v : Value) → contains c v ≡ true → contains c (moved p k v) ≡ true
  moved-contained Plain c same v h = h
  moved-contained Element c same v h =
      subst (λ (d : Carrier). contains d (p v) ≡ true) (sym (same refl))
      (within C M p back permutes elements v (subst (λ (d : Carrier). contains d v ≡ true) (same refl) h))

  begins-map : (c : Carrier) (g : Tuple → Value) (is : List Tuple) (s : State) → ((i : Tuple) → In i is → contains c (g i) ≡ true) → BeginsWithValues c is (map g is ++ s)
  begins-map c g [] s h = tt
  begins-map c g (i ∷ is) s h = (h i (inl refl), begins-map c g is s (λ j k. h j (inr k)))

  module _ (y : StateVariable) (i : Tuple) (here : In i (indices_of spec y)) where
    pub taken-at : (s : State) → taken spec sort M p back permutes elements y s i ≡ moved p (kind_of sort y.sort) (value_beside (indices_of spec y) s (all_moved sort back y.indices i))
    taken-at s =
        ap (λ (t : Tuple). moved p (kind_of sort y.sort) (value_beside (indices_of spec y) s t))
        (inside-twice spec sort M p back permutes elements y.indices (all_moved sort back y.indices i) (origin-within spec sort M p back permutes elements y i here))

    taken-contained : (s : State) → BeginsWithValues (carrier_of spec y.sort) (indices_of spec y) s → contains (carrier_of spec y.sort) (taken spec sort M p back permutes elements y s i) ≡ true
    taken-contained s h =
        ap (contains (carrier_of spec y.sort)) (taken-at s) ∙
        moved-contained (kind_of sort y.sort) (carrier_of spec y.sort) (kind-carrier spec sort M p back permutes elements y.sort) _
        (beside-contained (carrier_of spec y.sort) (indices_of spec y) s h (all_moved sort back y.indices i)
        (in_tuples (carriers_of spec y.indices) (all_moved sort back y.indices i) (origin-within spec sort M p back permutes elements y i here)))

  pub values-permuted : (ys : List StateVariable) (s : State) → AreValues spec ys s → AreValues spec ys (permuted spec sort p back ys s)
  values-permuted [] s h = refl
  values-permuted (y ∷ ys) s h =
      let rest = drop (length (indices_of spec y)) s in
      let g = taken spec sort M p back permutes elements y s in (
        begins-map (carrier_of spec y.sort) g (indices_of spec y) (permuted spec sort p back ys rest) (λ i k. taken-contained y i k s h.0),
        subst (AreValues spec ys) (sym (dropped g (indices_of spec y) (permuted spec sort p back ys rest))) (values-permuted ys rest h.1),
      )

  shape-map : (g : Tuple → Value) (is : List Tuple) (s : State) → BeginsWith is (map g is ++ s)
  shape-map g [] s = tt
  shape-map g (i ∷ is) s = shape-map g is s

-- ---- a permutation is undone

rebuilt : (is : List Tuple) → AreOnce is → (s : State) → BeginsWith is s → map (value_beside is s) is ++ drop (length is) s ≡ s
rebuilt [] once s h = refl
rebuilt (i ∷ is) once [] h = absurd h
rebuilt (i ∷ is) once (v ∷ s) h =
    ap (λ b. (if b then v else value_beside is s i) ∷ (map (value_beside (i ∷ is) (v ∷ s)) is ++ drop (length is) s)) (same-self i) ∙
    ap (λ (l : State). v ∷ l)
    (ap (λ (l : State). l ++ drop (length is) s) (map-same (value_beside (i ∷ is) (v ∷ s)) (value_beside is s) is (λ j k. past j k)) ∙ rebuilt is once.1 s h)
  where
    past : (j : Tuple) → In j is → value_beside (i ∷ is) (v ∷ s) j ≡ value_beside is s j
    past j k = by (same_values i j) refl
      where
        by : (b : Bool) → same_values i j ≡ b → (if b then v else value_beside is s j) ≡ value_beside is s j
        by true e = absurd (once.0 (subst (λ (t : Tuple). In t is) (sym (same-tuples i j e)) k))
        by false e = refl

module _ (spec : Spec) (sort : Name) (M : Carrier) (p back : Value → Value)
    (permutes : IsPermutation M p back) (elements : AreElements (carrier_of spec sort) M) where
  pub undone : (ys : List StateVariable) → (s : State) → HasShape spec ys s →
      permuted spec sort back p ys (permuted spec sort p back ys s) ≡ s
  undone [] s h = sym h
  undone (y ∷ ys) s h =
      let is = indices_of spec y in
      let rest = drop (length is) s in
      let g = taken spec sort M p back permutes elements y s in
      let t = permuted spec sort p back ys rest in
      ap (λ (l : State). map (taken spec sort M back p (turned M p back permutes) elements y (map g is ++ t)) is ++ permuted spec sort back p ys l) (dropped g is t) ∙
      (ap (λ (l : State). map (taken spec sort M back p (turned M p back permutes) elements y (map g is ++ t)) is ++ l) (undone ys rest h.1) ∙
      (ap (λ (l : State). l ++ rest) (map-same (taken spec sort M back p (turned M p back permutes) elements y (map g is ++ t)) (value_beside is s) is (λ i k. one y s i k t)) ∙
      rebuilt is (indices-once spec y) s h.0))
    where
      moved-back : (k : Kind) (v : Value) → moved back k (moved p k v) ≡ v
      moved-back Element v = permutes.here v
      moved-back Plain v = refl

      one : (y : StateVariable) (s : State) (i : Tuple) → In i (indices_of spec y) → (t : State) →
          taken spec sort M back p (turned M p back permutes) elements y (map (taken spec sort M p back permutes elements y s) (indices_of spec y) ++ t) i ≡ value_beside (indices_of spec y) s i
      one y s i here t =
          let is = indices_of spec y in
          let k = kind_of sort y.sort in
          let g = taken spec sort M p back permutes elements y s in
          let j = all_moved sort p y.indices i in
          let among = in_tuples (carriers_of spec y.indices) j
          (all-back-within spec sort M back p (turned M p back permutes) elements y.indices i (among_is_within (carriers_of spec y.indices) i (in_contains i is here))) in
          taken-at spec sort M back p (turned M p back permutes) elements y i here (map g is ++ t) ∙
          (ap (moved back k) (beside-map g is t j among ∙ taken-at spec sort M p back permutes elements y j among s) ∙
          (moved-back k _ ∙
          ap (value_beside is s) (all_moved-back spec sort M p back permutes elements y.indices i)))

  -- a permuted state is a state exactly where the state is one
  pub state-kept : (m : Protocol) → data_of m ≡ spec → (s : State) → HasShape spec m.variables s →
      is_within (carriers spec (flat_map (positions_of spec) m.variables)) (permuted spec sort p back m.variables s) ≡ is_within (carriers spec (flat_map (positions_of spec) m.variables)) s
  state-kept m same s shape =
      let ys = m.variables in
      same_by _ _
      (λ e. ap (is_within (carriers spec (flat_map (positions_of spec) ys))) (sym (undone ys s shape)) ∙
      state-of spec ys _ (values-permuted spec sort M back p (turned M p back permutes) elements ys _ (values-of spec ys _ e)))
      (λ e. state-of spec ys _ (values-permuted spec sort M p back permutes elements ys s (values-of spec ys s e)))
