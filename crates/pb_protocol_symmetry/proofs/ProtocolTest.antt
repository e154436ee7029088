-- Steps, formulas and protocols that pass the test have the kinds.
use Rattle.std.proofs.Common.{◌≡◌, Bool, true, false, true≢false, not, ◌||◌, if◌then◌else◌, List, [], ◌∷◌, map, refl, sym, ap, ◌∙◌}
use Rattle.std.specs.Prelude.{Option, Some, None}
use Rattle.std.specs.List.{list_all}
use Rattle.std.proofs.lemmas.Bool.{and_parts, not-true}
use Rattle.std.proofs.lemmas.Bool.Decides.{Decides-int_eq}
use Rattle.pb_base_values.specs.Carrier.{Value, Carrier, contains}
use Rattle.pb_text_meaning.specs.Syntax.{Name, same_name, Variable, Term, Terms, Spec}
use Rattle.pb_text_meaning.specs.Sorts.{carrier_of}
use Rattle.pb_protocol_meaning.specs.Syntax.{StateVariable, Definition, Assignment, Step, StepSet, Formula, Protocol}
use Rattle.pb_protocol_meaning.specs.Steps.{data_of}
use Rattle.pb_protocol_symmetry.specs.Permutation.{Kind, Plain, kind_of}
use Rattle.pb_protocol_symmetry.specs.Kinds.{Signature, Signatures, IsUnknown, extended, HasKind}
use Rattle.pb_protocol_symmetry.specs.Test.{is_plain, are_for, kind_in, kinds_in}
use Rattle.pb_protocol_symmetry.specs.ProtocolTest.{is_kind, are_indices, assignment_has_kinds, step_has_kinds, values_have_kinds, set_has_kinds, formula_has_kinds, tested_signature, tested_signatures, signatures_in, is_unknown, are_defined, have_own_names, has_value, indices_have_values, TestedStepsHaveKinds, TestedFormulasHaveKinds, TestedProtocolsAreSymmetric}
use Rattle.pb_protocol_symmetry.specs.States.{signature_of, NoneIsNamed, HaveOwnNames, HaveValues, IndicesHaveValues, DefinitionHasKind, AreDefined}
use Rattle.pb_protocol_symmetry.specs.Steps.{is_index, is_hidden, AreIndices, AssignmentHasKinds, AssignmentsHaveKinds, StepHasKinds}
use Rattle.pb_protocol_symmetry.specs.Satisfaction.{ValuesHaveKinds, SetHasKinds, SetHasKindsAt, FormulaHasKinds, StepsHaveKinds}
use Rattle.pb_protocol_symmetry.proofs.Carriers.{all_at}
use Rattle.pb_protocol_symmetry.proofs.Test.{plain-some, same-kinds, sound, all-sound, arguments-sound}

-- what is tested where a condition is true holds there
where-true : (b c : Bool) → (if b then c else true) ≡ true → b ≡ true → c ≡ true
where-true true c e h = e
where-true false c e h = absurd (true≢false (sym h))

module _ (spec : Spec) (sort : Name) (M : Carrier) (signatures : List Signature) where
  plain-has : (scope : List Variable) (x : Term) → is_plain (kind_in spec sort M signatures scope x) ≡ true → HasKind spec sort M signatures scope Plain x
  plain-has scope x e = sound spec sort M signatures x scope Plain (plain-some _ e)

  kind-has : (scope : List Variable) (k : Kind) (x : Term) → is_kind k (kind_in spec sort M signatures scope x) ≡ true → HasKind spec sort M signatures scope k x
  kind-has scope k x e = by (kind_in spec sort M signatures scope x) refl e
    where
      by : (o : Option Kind) → kind_in spec sort M signatures scope x ≡ o → is_kind k o ≡ true → HasKind spec sort M signatures scope k x
      by None h e = absurd (true≢false (sym e))
      by (Some j) h e = sound spec sort M signatures x scope k (h ∙ ap (λ (i : Kind). Some i) (same-kinds j k e))

  -- ---- steps

  indices-are : (zs : List Variable) (index : Terms) (xs : List Variable) → are_indices sort zs index xs ≡ true → AreIndices sort zs index xs
  indices-are zs index [] e = tt
  indices-are zs index (x ∷ xs) e =
      let r = and_parts _ (are_indices sort zs index xs) e in (
        λ h. let s = and_parts (is_index sort x.name zs index) (not (is_hidden x.name xs)) (where-true (same_name x.sort sort) _ r.0 h) in
            (s.0, not-true (is_hidden x.name xs) s.1),
        indices-are zs index xs r.1,
      )

  assignment-has : (scope : List Variable) (ys : List StateVariable) (a : Assignment) → assignment_has_kinds spec sort M signatures scope ys a ≡ true →
      AssignmentHasKinds spec sort M signatures scope ys a
  assignment-has scope [] a e = tt
  assignment-has scope (y ∷ ys) a e =
      let r = and_parts _ (assignment_has_kinds spec sort M signatures scope ys a) e in (
        λ h. let inner = extended a.variables scope in
            let s = and_parts _ (are_indices sort y.indices a.index a.variables) (where-true (same_name a.variable y.name) _ r.0 h) in
            let t = and_parts (are_for sort y.indices (kinds_in spec sort M signatures inner a.index)) (is_kind (kind_of sort y.sort) (kind_in spec sort M signatures inner a.term)) s.0 in (
              arguments-sound spec sort M signatures inner y.indices a.index _ (all-sound spec sort M signatures a.index inner) t.0,
              kind-has inner (kind_of sort y.sort) a.term t.1,
              indices-are y.indices a.index a.variables s.1,
            ),
        assignment-has scope ys a r.1,
      )

  assignments-have : (scope : List Variable) (ys : List StateVariable) (xs : List Assignment) → list_all (assignment_has_kinds spec sort M signatures scope ys) xs ≡ true →
      AssignmentsHaveKinds spec sort M signatures scope ys xs
  assignments-have scope ys [] e = tt
  assignments-have scope ys (a ∷ xs) e =
      let r = and_parts (assignment_has_kinds spec sort M signatures scope ys a) (list_all (assignment_has_kinds spec sort M signatures scope ys) xs) e in
      (assignment-has scope ys a r.0, assignments-have scope ys xs r.1)

  step-has : (ys : List StateVariable) (a : Step) → step_has_kinds spec sort M signatures ys a ≡ true → StepHasKinds spec sort M signatures ys a
  step-has ys a e =
      let r = and_parts (is_plain (kind_in spec sort M signatures (extended a.variables []) a.guard)) _ e in
      record {
        guard = plain-has (extended a.variables []) a.guard r.0;
        assignments = assignments-have (extended a.variables []) ys a.assignments r.1;
      }

  steps-have : (ys : List StateVariable) (steps : List Step) → list_all (step_has_kinds spec sort M signatures ys) steps ≡ true → StepsHaveKinds spec sort M signatures ys steps
  steps-have ys [] e = tt
  steps-have ys (a ∷ steps) e =
      let r = and_parts (step_has_kinds spec sort M signatures ys a) (list_all (step_has_kinds spec sort M signatures ys) steps) e in
      (step-has ys a r.0, steps-have ys steps r.1)

  -- ---- sets of steps

  values-have : (scope zs : List Variable) (xs : List (Option Term)) → values_have_kinds spec sort M signatures scope zs xs ≡ true → ValuesHaveKinds spec sort M signatures scope zs xs
  values-have scope [] [] e = tt
  values-have scope [] (x ∷ xs) e = tt
  values-have scope (z ∷ zs) [] e = tt
  values-have scope (z ∷ zs) (None ∷ xs) e = values-have scope zs xs e
  values-have scope (z ∷ zs) (Some x ∷ xs) e =
      let r = and_parts (is_kind (kind_of sort z.sort) (kind_in spec sort M signatures scope x)) (values_have_kinds spec sort M signatures scope zs xs) e in
      (kind-has scope (kind_of sort z.sort) x r.0, values-have scope zs xs r.1)

  set-has : (scope : List Variable) (A : StepSet) (a : Step) → set_has_kinds spec sort M signatures scope A a ≡ true → SetHasKinds spec sort M signatures scope A a
  set-has scope StepSet.All a e = tt
  set-has scope (StepSet.Only y) a e = tt
  set-has scope (StepSet.With y xs) a e = λ h. values-have scope a.variables xs (where-true (same_name y a.name) _ e h)
  set-has scope (StepSet.Complement A) a e = set-has scope A a e
  set-has scope (StepSet.Union A B) a e =
      let r = and_parts (set_has_kinds spec sort M signatures scope A a) (set_has_kinds spec sort M signatures scope B a) e in
      (set-has scope A a r.0, set-has scope B a r.1)

  set-has-at : (scope : List Variable) (A : StepSet) (steps : List Step) → list_all (set_has_kinds spec sort M signatures scope A) steps ≡ true → SetHasKindsAt spec sort M signatures scope A steps
  set-has-at scope A [] e = tt
  set-has-at scope A (a ∷ steps) e =
      let r = and_parts (set_has_kinds spec sort M signatures scope A a) (list_all (set_has_kinds spec sort M signatures scope A) steps) e in
      (set-has scope A a r.0, set-has-at scope A steps r.1)

-- ---- formulas

module _ (m : Protocol) (sort : Name) (M : Carrier) (signatures : Signatures) where
  abbrev test : List Variable → Formula → Bool
  test scope f = formula_has_kinds m sort M signatures scope f

  abbrev Has : List Variable → Formula → Type 0
  Has scope f = FormulaHasKinds m sort M signatures scope f

  set-test : (scope : List Variable) (A : StepSet) → list_all (set_has_kinds (data_of m) sort M signatures.at_start scope A) m.steps ≡ true →
      SetHasKindsAt (data_of m) sort M signatures.at_start scope A m.steps
  set-test scope A e = set-has-at (data_of m) sort M signatures.at_start scope A m.steps e

  formula-has : (f : Formula) (scope : List Variable) → test scope f ≡ true → Has scope f
  formula-has (Formula.Truth b) scope e = tt
  formula-has (Formula.Data x) scope e = plain-has (data_of m) sort M signatures.at_states scope x e
  formula-has (Formula.Named X) scope e = tt
  formula-has (Formula.Not f) scope e = formula-has f scope e
  formula-has (Formula.And f g) scope e =
      let r = and_parts (test scope f) (test scope g) e in (formula-has f scope r.0, formula-has g scope r.1)
  formula-has (Formula.Or f g) scope e =
      let r = and_parts (test scope f) (test scope g) e in (formula-has f scope r.0, formula-has g scope r.1)
  formula-has (Formula.Implies f g) scope e =
      let r = and_parts (test scope f) (test scope g) e in (formula-has f scope r.0, formula-has g scope r.1)
  formula-has (Formula.Box A f) scope e =
      let r = and_parts _ (test scope f) e in (set-test scope A r.0, formula-has f scope r.1)
  formula-has (Formula.Diamond A f) scope e =
      let r = and_parts _ (test scope f) e in (set-test scope A r.0, formula-has f scope r.1)
  formula-has (Formula.Fixpoint sign X f) scope e = formula-has f scope e
  formula-has (Formula.Quantified q xs f) scope e = formula-has f (extended xs scope) e

-- ---- what a protocol declares

new-of : (signatures : List Signature) (x : Name) → is_unknown signatures x ≡ true → IsUnknown signatures x
new-of [] x e = tt
new-of (s ∷ signatures) x e =
    let r = and_parts (not (same_name s.name x)) (is_unknown signatures x) e in
    (not-true (same_name s.name x) r.0, new-of signatures x r.1)

definition-has : (spec : Spec) (sort : Name) (M : Carrier) (signatures : List Signature) (d : Definition) (o : Option Kind) → kind_in spec sort M signatures (extended d.parameters []) d.term ≡ o →
    DefinitionHasKind spec sort M signatures d o
definition-has spec sort M signatures d None h = tt
definition-has spec sort M signatures d (Some k) h = sound spec sort M signatures d.term (extended d.parameters []) k h

defined-of : (spec : Spec) (sort : Name) (M : Carrier) (ds : List Definition) (signatures : List Signature) → are_defined spec sort M signatures ds ≡ true →
    AreDefined spec sort M signatures ds (tested_signatures spec sort M signatures ds)
defined-of spec sort M [] signatures e = refl
defined-of spec sort M (d ∷ ds) signatures e =
    let r = and_parts (is_unknown signatures d.name) _ e in (
      kind_in spec sort M signatures (extended d.parameters []) d.term,
      definition-has spec sort M signatures d _ refl,
      new-of signatures d.name r.0,
      defined-of spec sort M ds (tested_signature spec sort M signatures d ∷ signatures) r.1,
    )

none-named : (x : Name) (ys : List StateVariable) → list_all (λ (z : StateVariable). not (same_name x z.name)) ys ≡ true → NoneIsNamed x ys
none-named x [] e = tt
none-named x (y ∷ ys) e =
    let r = and_parts (not (same_name x y.name)) (list_all (λ (z : StateVariable). not (same_name x z.name)) ys) e in
    (not-true (same_name x y.name) r.0, none-named x ys r.1)

apart-of : (ys : List StateVariable) → have_own_names ys ≡ true → HaveOwnNames ys
apart-of [] e = tt
apart-of (y ∷ ys) e =
    let r = and_parts _ (have_own_names ys) e in (none-named y.name ys r.0, apart-of ys r.1)

value-of : (c : Carrier) → has_value c ≡ true → (v : Value) × (contains c v ≡ true)
value-of [] e = absurd (true≢false (sym e))
value-of (v ∷ c) e = (v, ap (λ b. b || contains c v) ((Decides-int_eq v v).1 refl))

values-of : (spec : Spec) (xs : List Variable) → list_all (λ (x : Variable). has_value (carrier_of spec x.sort)) xs ≡ true → HaveValues spec xs
values-of spec [] e = tt
values-of spec (x ∷ xs) e =
    let r = and_parts (has_value (carrier_of spec x.sort)) (list_all (λ (x : Variable). has_value (carrier_of spec x.sort)) xs) e in
    (value-of (carrier_of spec x.sort) r.0, values-of spec xs r.1)

indices-of : (spec : Spec) (ys : List StateVariable) → list_all (indices_have_values spec) ys ≡ true → IndicesHaveValues spec ys
indices-of spec [] e = tt
indices-of spec (y ∷ ys) e =
    let r = and_parts (indices_have_values spec y) (list_all (indices_have_values spec) ys) e in
    (values-of spec y.indices r.0, indices-of spec ys r.1)

pub steps-tested : TestedStepsHaveKinds
steps-tested spec sort M signatures ys a e = step-has spec sort M signatures ys a e

pub formulas-tested : TestedFormulasHaveKinds
formulas-tested m sort M signatures scope f e = formula-has m sort M signatures f scope e

pub protocols-tested : TestedProtocolsAreSymmetric
protocols-tested m sort M e =
    let spec = data_of m in
    let variables = map (signature_of sort) m.variables in
    let steps = and_parts _ (list_all (step_has_kinds spec sort M (signatures_in m sort M).at_states m.variables) m.steps) e in
    let start = and_parts _ (are_defined spec sort M [] m.definitions) steps.0 in
    let states = and_parts _ (are_defined spec sort M variables m.definitions) start.0 in
    let indices = and_parts _ (list_all (indices_have_values spec) m.variables) states.0 in
    let apart = and_parts (list_all (contains (carrier_of spec sort)) M) (have_own_names m.variables) indices.0 in
    record {
      declared = record {
        elements = λ v h. all_at (contains (carrier_of spec sort)) M apart.0 v h;
        apart = apart-of m.variables apart.1;
        indices = indices-of spec m.variables indices.1;
        at_states = defined-of spec sort M m.definitions variables states.1;
        at_start = defined-of spec sort M m.definitions [] start.1;
      };
      steps = steps-have spec sort M (signatures_in m sort M).at_states m.variables m.steps steps.1;
    }
