-- A permuted step is a step.
use Rattle.std.proofs.Common.{◌≡◌, ◌⊎◌, inl, inr, Bool, true, false, true≢false, if◌then◌else◌, List, [], ◌∷◌, ◌++◌, map, flat_map, length, drop, refl, sym, ap, ◌∙◌}
use Rattle.pb_base_values.specs.Carrier.{Value, Carrier, Tuple, is_within}
use Rattle.pb_base_values.proofs.Tuples.{In, in_tuples}
use Rattle.pb_text_meaning.specs.Syntax.{Name, Variable, Spec}
use Rattle.pb_text_meaning.specs.Sorts.{carrier_of}
use Rattle.pb_text_meaning.specs.Formula.{carriers_of}
use Rattle.pb_text_meaning.specs.Value.{is_true}
use Rattle.pb_text_meaning.specs.Value as data_value
use Rattle.pb_model_meaning.specs.Steps.{State}
use Rattle.pb_protocol_meaning.specs.Syntax.{StateVariable, Assignment}
use Rattle.pb_protocol_meaning.specs.Meaning.{Functions, same_values, all_inside, value_beside}
use Rattle.pb_protocol_meaning.specs.Steps.{data_of, indices_of, Position, positions_of, Update, updates, value_after, state_after, functions_at, own_values}
use Rattle.pb_protocol_symmetry.specs.Permutation.{IsPermutation, AreElements, Plain, kind_of, moved, all_moved}
use Rattle.pb_protocol_symmetry.specs.Kinds.{Signature, extended}
use Rattle.pb_protocol_symmetry.specs.Laws.{AreCarried, AreFunctionsCarried}
use Rattle.pb_protocol_symmetry.specs.States.{permuted, BeginsWithValues, AreValues}
use Rattle.pb_protocol_symmetry.specs.Steps.{AssignmentsHaveKinds, PermutedStepsAreSteps}
use Rattle.pb_protocol_symmetry.proofs.Terms.{term-moved}
use Rattle.pb_protocol_symmetry.proofs.Elements.{origin-within, same-self, same-tuples, inside-twice, all-there-back}
use Rattle.pb_protocol_symmetry.proofs.Copies.{value-moved}
use Rattle.pb_protocol_symmetry.proofs.States.{functions-carried, assigned-carried, taken}

pub map-same : {A B : Type 0} (f g : A → B) (xs : List A) → ((x : A) → In x xs → f x ≡ g x) → map f xs ≡ map g xs
map-same f g [] h = refl
map-same f g (x ∷ xs) h = ap (λ u. u ∷ map f xs) (h x (inl refl)) ∙ ap (λ l. g x ∷ l) (map-same f g xs (λ y i. h y (inr i)))

abbrev pub place : StateVariable → Tuple → Position
place y index = record { variable = y.name; index = index; sort = y.sort }

-- ---- the values of one variable after updates

module _ (us : List Update) (y : StateVariable) where
  abbrev after-places : List Position → State → State
  after-places ps s = state_after us ps s

  abbrev after-value : Tuple → Value → Value
  after-value i v = value_after us y.name i v

  after-map : (g : Tuple → Value) (is : List Tuple) (ps : List Position) (s : State) →
      after-places (map (place y) is ++ ps) (map g is ++ s) ≡ map (λ i. after-value i (g i)) is ++ after-places ps s
  after-map g [] ps s = refl
  after-map g (i ∷ is) ps s = ap (λ l. after-value i (g i) ∷ l) (after-map g is ps s)

  after-drop : (c : Carrier) (is : List Tuple) (ps : List Position) (s : State) → BeginsWithValues c is s →
      drop (length is) (after-places (map (place y) is ++ ps) s) ≡ after-places ps (drop (length is) s)
  after-drop c [] ps s h = refl
  after-drop c (i ∷ is) ps [] h = absurd h
  after-drop c (i ∷ is) ps (v ∷ s) h = after-drop c is ps s h.1

  after-beside : (c : Carrier) (is : List Tuple) (ps : List Position) (s : State) → BeginsWithValues c is s → (j : Tuple) → In j is →
      value_beside is (after-places (map (place y) is ++ ps) s) j ≡ after-value j (value_beside is s j)
  after-beside c [] ps s h j k = absurd k
  after-beside c (i ∷ is) ps [] h j k = absurd h
  after-beside c (i ∷ is) ps (v ∷ s) h j k = by (same_values i j) refl (tail k) (after-beside c is ps s h.1 j)
    where
      tail : (i ≡ j) ⊎ In j is → same_values i j ≡ false → In j is
      tail (inl e) f = absurd (true≢false (sym (ap (same_values i) (sym e) ∙ same-self i) ∙ f))
      tail (inr k) f = k

      by : (b : Bool) → same_values i j ≡ b → (same_values i j ≡ false → In j is) →
          (In j is → value_beside is (after-places (map (place y) is ++ ps) s) j ≡ after-value j (value_beside is s j)) →
          (if b then after-value i v else value_beside is (after-places (map (place y) is ++ ps) s) j) ≡ after-value j (if b then v else value_beside is s j)
      by true e later next = ap (λ (t : Tuple). after-value t v) (same-tuples i j e)
      by false e later next = next (later e)

-- ---- permuted

module _ (spec : Spec) (sort : Name) (M : Carrier) (p back : Value → Value)
    (permutes : IsPermutation M p back) (elements : AreElements (carrier_of spec sort) M)
    (signatures : List Signature) (before after : Functions) (fs : AreFunctionsCarried (carrier_of spec sort) sort p signatures before after)
    (scope : List Variable) (a b : data_value.Assignment) (ab : AreCarried (carrier_of spec sort) sort p scope a b) where
  abbrev there : List StateVariable → State → State
  there ys s = permuted spec sort p back ys s

  abbrev first-us : List Assignment → List Update
  first-us xs = updates spec before a xs

  abbrev then-us : List Assignment → List Update
  then-us xs = updates spec after b xs

  abbrev first-after : List Assignment → List Position → State → State
  first-after xs ps s = state_after (first-us xs) ps s

  abbrev then-after : List Assignment → List Position → State → State
  then-after xs ps s = state_after (then-us xs) ps s

  -- an index of a variable, and the one from which it is moved
  module _ (y : StateVariable) (i : Tuple) (here : In i (indices_of spec y)) where
    within : is_within (carriers_of spec y.indices) (all_moved sort back y.indices i) ≡ true
    within = origin-within spec sort M p back permutes elements y i here

    origin-inside : all_inside (carriers_of spec y.indices) (all_moved sort back y.indices i) ≡ all_moved sort back y.indices i
    origin-inside = inside-twice spec sort M p back permutes elements y.indices (all_moved sort back y.indices i) within

    element-moved : (ys : List StateVariable) (xs : List Assignment) → AssignmentsHaveKinds spec sort M signatures scope (y ∷ ys) xs → (s : State) → AreValues spec (y ∷ ys) s →
        value_after (then-us xs) y.name i (taken spec sort M p back permutes elements y s i) ≡
        taken spec sort M p back permutes elements y (first-after xs (flat_map (positions_of spec) (y ∷ ys)) s) i
    element-moved ys xs kinds s values =
        let j = all_moved sort back y.indices i in
        let is = indices_of spec y in
        let k = kind_of sort y.sort in
        let new = first-after xs (flat_map (positions_of spec) (y ∷ ys)) s in
        ap (λ (t : Tuple). value_after (then-us xs) y.name i (moved p k (value_beside is s t))) origin-inside ∙
        (ap (λ (t : Tuple). value_after (then-us xs) y.name t (moved p k (value_beside is s j))) (sym (all-there-back spec sort M p back permutes elements y.indices i)) ∙
        (value-moved spec sort M p back permutes elements signatures before after fs scope a b ab y ys xs kinds j (value_beside is s j) ∙
        (ap (moved p k) (sym (after-beside (first-us xs) y (carrier_of spec y.sort) is (flat_map (positions_of spec) ys) s values.0 j (in_tuples (carriers_of spec y.indices) j within))) ∙
        ap (λ (t : Tuple). moved p k (value_beside is new t)) (sym origin-inside))))

  fewer : (y : StateVariable) (ys : List StateVariable) (xs : List Assignment) → AssignmentsHaveKinds spec sort M signatures scope (y ∷ ys) xs → AssignmentsHaveKinds spec sort M signatures scope ys xs
  fewer y ys [] kinds = tt
  fewer y ys (x ∷ xs) kinds = (kinds.0.1, fewer y ys xs kinds.1)

  pub next-moved : (ys : List StateVariable) (xs : List Assignment) → AssignmentsHaveKinds spec sort M signatures scope ys xs → (s : State) → AreValues spec ys s →
      then-after xs (flat_map (positions_of spec) ys) (there ys s) ≡ there ys (first-after xs (flat_map (positions_of spec) ys) s)
  next-moved [] xs kinds s values = refl
  next-moved (y ∷ ys) xs kinds s values =
      let is = indices_of spec y in
      let ps = flat_map (positions_of spec) ys in
      let rest = drop (length is) s in
      let new = first-after xs (flat_map (positions_of spec) (y ∷ ys)) s in
      let g = taken spec sort M p back permutes elements y s in
      let h = taken spec sort M p back permutes elements y new in
      after-map (then-us xs) y g is ps (there ys rest) ∙
      (ap (λ (l : State). l ++ then-after xs ps (there ys rest)) (map-same (λ i. value_after (then-us xs) y.name i (g i)) h is
      (λ i k. element-moved y i k ys xs kinds s values)) ∙
      (ap (λ (l : State). map h is ++ l) (next-moved ys xs (fewer y ys xs kinds) rest values.1) ∙
      ap (λ (l : State). map h is ++ there ys l) (sym (after-drop (first-us xs) y (carrier_of spec y.sort) is ps s values.0))))

pub step-carried : PermutedStepsAreSteps
step-carried m sort M signatures known p back permutes a kinds s values own k =
    let spec = data_of m in
    let before = functions_at m s in
    let after = functions_at m (permuted spec sort p back m.variables s) in
    let fs = functions-carried m sort M p back permutes known.elements known.apart known.indices signatures.at_states known.at_states s values in
    let scope = extended a.variables [] in
    let ab = assigned-carried spec sort M p back permutes known.elements a.variables own k [] [] [] tt in
    record {
      enabled = ap is_true (term-moved spec sort M p back permutes known.elements signatures.at_states before after fs scope Plain a.guard kinds.guard
          (own_values a own) (own_values a (all_moved sort p a.variables own)) ab).0;
      next = next-moved spec sort M p back permutes known.elements signatures.at_states before after fs scope
          (own_values a own) (own_values a (all_moved sort p a.variables own)) ab m.variables a.assignments kinds.assignments s values;
    }
