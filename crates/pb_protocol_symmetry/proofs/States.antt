-- The values of a protocol's variables and definitions are permuted where its state is.
use Rattle.std.proofs.Common.{◌≡◌, inl, inr, Bool, true, false, true≢false, ◌&&◌, List, [], ◌∷◌, map, length, drop, refl, sym, ap, ◌∙◌, subst}
use Rattle.std.specs.Prelude.{Option, Some, None}
use Rattle.pb_base_values.specs.Carrier.{Value, Carrier, Tuple, contains}
use Rattle.pb_base_values.proofs.Tuples.{In, in_tuples}
use Rattle.std.proofs.lemmas.Bool.{and_from, and_left, cond-true, cond-false}
use Rattle.std.proofs.lemmas.Slice.Eq.{bytes_eq-Decides}
use Rattle.pb_text_meaning.specs.Syntax.{Name, same_name, Variable, Spec}
use Rattle.pb_text_meaning.specs.Sorts.{carrier_of}
use Rattle.pb_text_meaning.specs.Formula.{carriers_of}
use Rattle.pb_text_meaning.specs.Meaning.{assigned}
use Rattle.pb_text_meaning.specs.Value.{Assignment}
use Rattle.pb_model_meaning.specs.Steps.{State}
use Rattle.pb_protocol_meaning.specs.Syntax.{StateVariable, Definition}
use Rattle.pb_protocol_meaning.specs.Meaning.{Functions, are_as_many, all_inside, value_beside, meaning, with_definition, with_definitions}
use Rattle.pb_protocol_meaning.specs.Steps.{data_of, indices_of, function_at, variables_at}
use Rattle.pb_protocol_symmetry.specs.Permutation.{IsPermutation, AreElements, Kind, Element, Plain, kind_of, moved, all_moved, IsInKind, AreInKinds}
use Rattle.pb_protocol_symmetry.specs.Kinds.{Signature, IsAmong, IsUnknown, extended, HasKind}
use Rattle.pb_protocol_symmetry.specs.Laws.{AreCarried, IsFunctionCarried, AreFunctionsCarried}
use Rattle.pb_protocol_symmetry.specs.States.{permuted, AreValues, NoneIsNamed, HaveOwnNames, IndicesHaveValues, signature_of, definition_signature, DefinitionHasKind, AreDefined, FunctionsAreCarried}
use Rattle.pb_protocol_symmetry.proofs.Terms.{some≢none, some_same, kind-carrier, term-moved}
use Rattle.pb_protocol_symmetry.proofs.Elements.{beside-map, beside-contained, dropped, all_inside-moved, all_moved-back, as-many, as-many-moved, inside-within, inside-twice}

same-itself : (x : Name) → same_name x x ≡ true
same-itself x = (bytes_eq-Decides x x).1 refl

not-same : (x y : Name) → same_name x y ≡ false → same_name y x ≡ false
not-same x y h = by (same_name y x) refl
  where
    by : (b : Bool) → same_name y x ≡ b → b ≡ false
    by false e = refl
    by true e = absurd (true≢false (sym (ap (same_name x) ((bytes_eq-Decides y x).0 e) ∙ same-itself x) ∙ h))

module _ (spec : Spec) (sort : Name) (M : Carrier) (p back : Value → Value)
    (permutes : IsPermutation M p back) (elements : AreElements (carrier_of spec sort) M) where
  abbrev C : Carrier
  C = carrier_of spec sort

  abbrev there : List StateVariable → State → State
  there ys s = permuted spec sort p back ys s

  -- ---- one variable

  -- the value at an index, from which a permuted state takes its own
  abbrev pub taken : StateVariable → State → Tuple → Value
  taken y s index = moved p (kind_of sort y.sort) (function_at spec y s (all_moved sort back y.indices index))

  module _ (y : StateVariable) (ys : List StateVariable) (s : State) (values : AreValues spec (y ∷ ys) s) (have : IndicesHaveValues spec (y ∷ ys)) where
    abbrev At : Tuple → Tuple
    At vs = all_inside (carriers_of spec y.indices) vs

    at-index : (vs : Tuple) → are_as_many y.indices vs ≡ true → In (At vs) (indices_of spec y)
    at-index vs e = in_tuples (carriers_of spec y.indices) (At vs) (inside-within spec sort M p back permutes elements y.indices vs have.0 e)

    at-twice : (vs : Tuple) → are_as_many y.indices vs ≡ true → At (At vs) ≡ At vs
    at-twice vs e = inside-twice spec sort M p back permutes elements y.indices (At vs) (inside-within spec sort M p back permutes elements y.indices vs have.0 e)

    function-moved : (vs : Tuple) → AreInKinds C sort y.indices vs →
        function_at spec y (there (y ∷ ys) s) (all_moved sort p y.indices vs) ≡ moved p (kind_of sort y.sort) (function_at spec y s vs)
    function-moved vs h =
        let e = as-many spec sort M p back permutes elements y.indices vs h in
        let moved-index = all_moved sort p y.indices vs in
        let e' : are_as_many y.indices moved-index ≡ true = as-many-moved spec sort M p back permutes elements y.indices vs ∙ e in
        beside-map (taken y s) (indices_of spec y) (there ys (drop (length (indices_of spec y)) s)) (At moved-index) (at-index moved-index e') ∙
        ap (moved p (kind_of sort y.sort))
        (ap (λ (j : Tuple). value_beside (indices_of spec y) s (At j))
        (ap (all_moved sort back y.indices) (all_inside-moved spec sort M p back permutes elements y.indices vs h) ∙ all_moved-back spec sort M p back permutes elements y.indices (At vs)) ∙
        ap (value_beside (indices_of spec y) s) (at-twice vs e))

    function-kind : (vs : Tuple) → AreInKinds C sort y.indices vs → IsInKind C (kind_of sort y.sort) (function_at spec y s vs)
    function-kind vs h = by (kind_of sort y.sort) (kind-carrier spec sort M p back permutes elements y.sort)
      where
        by : (k : Kind) → (k ≡ Element → carrier_of spec y.sort ≡ C) → IsInKind C k (function_at spec y s vs)
        by Plain same = tt
        by Element same =
            subst (λ (c : Carrier). contains c (function_at spec y s vs) ≡ true) (same refl)
            (beside-contained (carrier_of spec y.sort) (indices_of spec y) s values.0 (At vs) (at-index vs (as-many spec sort M p back permutes elements y.indices vs h)))

    later-same : drop (length (indices_of spec y)) (there (y ∷ ys) s) ≡ there ys (drop (length (indices_of spec y)) s)
    later-same = dropped (taken y s) (indices_of spec y) (there ys (drop (length (indices_of spec y)) s))

  -- ---- all variables

  abbrev Carried : List Signature → Functions → Functions → Type 0
  Carried signatures before after = AreFunctionsCarried C sort p signatures before after

  abbrev At-once : Functions → Functions → Signature → Kind → Tuple → Type 0
  At-once before after σ k vs = IsFunctionCarried C sort p before after σ k vs

  none-among : (x : Name) (ys : List StateVariable) → NoneIsNamed x ys → (σ : Signature) → IsAmong (map (signature_of sort) ys) σ → same_name x σ.name ≡ false
  none-among x [] none σ h = absurd h
  none-among x (y ∷ ys) none σ (inl e) = ap (λ (t : Signature). same_name x t.name) e ∙ none.0
  none-among x (y ∷ ys) none σ (inr h) = none-among x ys none.1 σ h

  -- the same functions, by their results at some arguments
  passed : (before after before' after' : Functions) (σ : Signature) (k : Kind) (vs : Tuple) →
      before' σ.name vs ≡ before σ.name vs → after' σ.name (all_moved sort p σ.parameters vs) ≡ after σ.name (all_moved sort p σ.parameters vs) →
      At-once before after σ k vs → At-once before' after' σ k vs
  passed before after before' after' σ k vs e f r = record {
    value = r.value;
    first = e ∙ r.first;
    then_moved = f ∙ r.then_moved;
    kind = r.kind;
  }

  variables-known : (ys : List StateVariable) (s : State) → HaveOwnNames ys → IndicesHaveValues spec ys → AreValues spec ys s →
      (σ : Signature) → IsAmong (map (signature_of sort) ys) σ → (j : Kind) → σ.kind ≡ Some j → (vs : Tuple) → AreInKinds C sort σ.parameters vs →
      At-once (variables_at spec ys s) (variables_at spec ys (there ys s)) σ j vs
  variables-known [] s apart have values σ h j is vs k = absurd h
  variables-known (y ∷ ys) s apart have values σ (inl e) j is vs k =
      subst (λ (i : Kind). At-once (variables_at spec (y ∷ ys) s) (variables_at spec (y ∷ ys) (there (y ∷ ys) s)) σ i vs)
      (some_same (kind_of sort y.sort) j (ap (λ (t : Signature). t.kind) (sym e) ∙ is))
      (subst (λ (t : Signature). AreInKinds C sort t.parameters vs → At-once (variables_at spec (y ∷ ys) s) (variables_at spec (y ∷ ys) (there (y ∷ ys) s)) t (kind_of sort y.sort) vs) (sym e)
      (λ k. record {
        value = function_at spec y s vs;
        first = cond-true (same_name y.name y.name && are_as_many y.indices vs) _ _
            (and_from (same_name y.name y.name) (are_as_many y.indices vs) (same-itself y.name) (as-many spec sort M p back permutes elements y.indices vs k));
        then_moved = cond-true (same_name y.name y.name && are_as_many y.indices (all_moved sort p y.indices vs)) _ _
            (and_from (same_name y.name y.name) (are_as_many y.indices (all_moved sort p y.indices vs)) (same-itself y.name)
            (as-many-moved spec sort M p back permutes elements y.indices vs ∙ as-many spec sort M p back permutes elements y.indices vs k)) ∙
            ap (λ v. Some v) (function-moved y ys s values have vs k);
        kind = function-kind y ys s values have vs k;
      }) k)
  variables-known (y ∷ ys) s apart have values σ (inr h) j is vs k =
      let rest = drop (length (indices_of spec y)) s in
      let differs = none-among y.name ys apart.0 σ h in
      passed (variables_at spec ys rest) (variables_at spec ys (there ys rest)) _ _ σ j vs
      (cond-false (same_name y.name σ.name && are_as_many y.indices vs) _ _ (and_left (same_name y.name σ.name) (are_as_many y.indices vs) differs))
      (cond-false (same_name y.name σ.name && are_as_many y.indices (all_moved sort p σ.parameters vs)) _ _
      (and_left (same_name y.name σ.name) (are_as_many y.indices (all_moved sort p σ.parameters vs)) differs) ∙
      ap (λ (t : State). variables_at spec ys t σ.name (all_moved sort p σ.parameters vs)) (later-same y ys s values have))
      (variables-known ys rest apart.1 have.1 values.1 σ h j is vs k)

  variables-unknown : (ys : List StateVariable) (s : State) (x : Name) → IsUnknown (map (signature_of sort) ys) x → (vs : Tuple) → variables_at spec ys s x vs ≡ None
  variables-unknown [] s x new vs = refl
  variables-unknown (y ∷ ys) s x new vs =
      cond-false (same_name y.name x && are_as_many y.indices vs) _ _ (and_left (same_name y.name x) (are_as_many y.indices vs) new.0) ∙
      variables-unknown ys (drop (length (indices_of spec y)) s) x new.1 vs

  variables-carried : (ys : List StateVariable) (s : State) → HaveOwnNames ys → IndicesHaveValues spec ys → AreValues spec ys s →
      Carried (map (signature_of sort) ys) (variables_at spec ys s) (variables_at spec ys (there ys s))
  variables-carried ys s apart have values = record {
    known = variables-known ys s apart have values;
    unknown = λ x new vs. (variables-unknown ys s x new vs, variables-unknown ys (there ys s) x new vs);
  }

  -- ---- definitions

  pub assigned-carried : (xs : List Variable) (vs : Tuple) → AreInKinds C sort xs vs → (scope : List Variable) (a b : Assignment) → AreCarried C sort p scope a b →
      AreCarried C sort p (extended xs scope) (assigned xs vs a) (assigned xs (all_moved sort p xs vs) b)
  assigned-carried [] [] k scope a b ab = ab
  assigned-carried [] (v ∷ vs) k scope a b ab = absurd k
  assigned-carried (x ∷ xs) [] k scope a b ab = absurd k
  assigned-carried (x ∷ xs) (v ∷ vs) k scope a b ab =
      assigned-carried xs vs k.1 (x ∷ scope) ((x.name, v) ∷ a) ((x.name, moved p (kind_of sort x.sort) v) ∷ b) (refl, refl, refl, k.0, ab)

  new-among : (signatures : List Signature) (x : Name) → IsUnknown signatures x → (σ : Signature) → IsAmong signatures σ → same_name σ.name x ≡ false
  new-among [] x new σ h = absurd h
  new-among (t ∷ signatures) x new σ (inl e) = ap (λ (u : Signature). same_name u.name x) e ∙ new.0
  new-among (t ∷ signatures) x new σ (inr h) = new-among signatures x new.1 σ h

  definition-carried : (signatures : List Signature) (before after : Functions) → Carried signatures before after → (d : Definition) (k : Option Kind) →
      DefinitionHasKind spec sort M signatures d k → IsUnknown signatures d.name →
      Carried (definition_signature d k ∷ signatures) (with_definition spec before d) (with_definition spec after d)
  definition-carried signatures before after fs d k hasKind new = record {
    known = known;
    unknown = λ x n vs. (
      cond-false (same_name d.name x && are_as_many d.parameters vs) _ _ (and_left (same_name d.name x) (are_as_many d.parameters vs) n.0) ∙ (fs.unknown x n.1 vs).0,
      cond-false (same_name d.name x && are_as_many d.parameters vs) _ _ (and_left (same_name d.name x) (are_as_many d.parameters vs) n.0) ∙ (fs.unknown x n.1 vs).1,
    );
  }
    where
      has : (o : Option Kind) (j : Kind) → o ≡ Some j → DefinitionHasKind spec sort M signatures d o → HasKind spec sort M signatures (extended d.parameters []) j d.term
      has None j is h = some≢none j (sym is)
      has (Some i) j is h = subst (λ (l : Kind). HasKind spec sort M signatures (extended d.parameters []) l d.term) (some_same i j is) h

      known : (σ : Signature) → IsAmong (definition_signature d k ∷ signatures) σ → (j : Kind) → σ.kind ≡ Some j → (vs : Tuple) → AreInKinds C sort σ.parameters vs →
          At-once (with_definition spec before d) (with_definition spec after d) σ j vs
      known σ (inl e) j is vs h =
          subst (λ (t : Signature). AreInKinds C sort t.parameters vs → At-once (with_definition spec before d) (with_definition spec after d) t j vs) (sym e)
          (λ h. let ws = all_moved sort p d.parameters vs in
          let r = term-moved spec sort M p back permutes elements signatures before after fs (extended d.parameters []) j d.term
          (has k j (ap (λ (t : Signature). t.kind) (sym e) ∙ is) hasKind)
          (assigned d.parameters vs []) (assigned d.parameters ws []) (assigned-carried d.parameters vs h [] [] [] tt) in
          record {
            value = meaning spec before (assigned d.parameters vs []) d.term;
            first = cond-true (same_name d.name d.name && are_as_many d.parameters vs) _ _
                (and_from (same_name d.name d.name) (are_as_many d.parameters vs) (same-itself d.name) (as-many spec sort M p back permutes elements d.parameters vs h));
            then_moved = cond-true (same_name d.name d.name && are_as_many d.parameters ws) _ _
                (and_from (same_name d.name d.name) (are_as_many d.parameters ws) (same-itself d.name)
                (as-many-moved spec sort M p back permutes elements d.parameters vs ∙ as-many spec sort M p back permutes elements d.parameters vs h)) ∙
                ap (λ v. Some v) r.0;
            kind = r.1;
          }) h
      known σ (inr among) j is vs h =
          let differs = not-same σ.name d.name (new-among signatures d.name new σ among) in
          let ws = all_moved sort p σ.parameters vs in
          passed before after _ _ σ j vs
          (cond-false (same_name d.name σ.name && are_as_many d.parameters vs) _ _ (and_left (same_name d.name σ.name) (are_as_many d.parameters vs) differs))
          (cond-false (same_name d.name σ.name && are_as_many d.parameters ws) _ _ (and_left (same_name d.name σ.name) (are_as_many d.parameters ws) differs))
          (fs.known σ among j is vs h)

  pub definitions-carried : (ds : List Definition) (signatures all : List Signature) → AreDefined spec sort M signatures ds all → (before after : Functions) → Carried signatures before after →
      Carried all (with_definitions spec before ds) (with_definitions spec after ds)
  definitions-carried [] signatures all e before after fs = subst (λ (l : List Signature). Carried l before after) (sym e) fs
  definitions-carried (d ∷ ds) signatures all h before after fs =
      definitions-carried ds (definition_signature d h.0 ∷ signatures) all h.3 (with_definition spec before d) (with_definition spec after d)
      (definition-carried signatures before after fs d h.0 h.1 h.2)

pub functions-carried : FunctionsAreCarried
functions-carried m sort M p back permutes elements apart have signatures defined s values =
    definitions-carried (data_of m) sort M p back permutes elements m.definitions (map (signature_of sort) m.variables) signatures defined _ _
    (variables-carried (data_of m) sort M p back permutes elements m.variables s apart have values)
