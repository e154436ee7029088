-- Whether steps, formulas and a whole protocol are the same where elements of a sort are permuted,
-- computed: the test of a scalar set (Ip and Dill 1996), by the kinds of its terms. It may refuse
-- what is symmetric, never the other way.
use Rattle.std.specs.Prelude.{◌≡◌, Bool, true, false, not, ◌&&◌, if◌then◌else◌}
use Rattle.std.specs.Prelude.{List, [], ◌∷◌, map, Option, Some, None}
use Rattle.std.specs.List.{list_all}
use Rattle.pb_base_values.specs.Carrier.{Carrier, contains}
use Rattle.pb_text_meaning.specs.Syntax.{Name, same_name, Variable, Term, Terms, Spec}
use Rattle.pb_text_meaning.specs.Sorts.{carrier_of}
use Rattle.pb_protocol_meaning.specs.Syntax.{StateVariable, Definition, Assignment, Step, StepSet}
use Rattle.pb_protocol_meaning.specs.Syntax.{Formula, Protocol}
use Rattle.pb_protocol_meaning.specs.Steps.{data_of}
use Rattle.pb_protocol_symmetry.specs.Permutation.{Kind, kind_of}
use Rattle.pb_protocol_symmetry.specs.Kinds.{Signature, Signatures, extended}
use Rattle.pb_protocol_symmetry.specs.Test.{same_kind, is_plain, are_for, kind_in, kinds_in}
use Rattle.pb_protocol_symmetry.specs.States.{signature_of, definition_signature}
use Rattle.pb_protocol_symmetry.specs.Steps.{is_index, is_hidden, StepHasKinds}
use Rattle.pb_protocol_symmetry.specs.Satisfaction.{FormulaHasKinds, IsSymmetric}

abbrev pub is_kind : Kind → Option Kind → Bool
is_kind k (Some j) = same_kind j k
is_kind k None = false

-- ---- steps

-- the variables of the sort are indices
abbrev pub are_indices : Name → List Variable → Terms → List Variable → Bool
are_indices sort zs index [] = true
are_indices sort zs index (x ∷ xs) =
    (if same_name x.sort sort then
    is_index sort x.name zs index && not (is_hidden x.name xs) else true)
    && are_indices sort zs index xs

abbrev pub assignment_has_kinds : Spec → Name → Carrier → List Signature → List Variable
    → List StateVariable → Assignment → Bool
assignment_has_kinds spec sort M signatures scope [] a = true
assignment_has_kinds spec sort M signatures scope (y ∷ ys) a =
    (if same_name a.variable y.name then
    are_for sort y.indices
    (kinds_in spec sort M signatures (extended a.variables scope) a.index)
    && is_kind (kind_of sort y.sort)
    (kind_in spec sort M signatures (extended a.variables scope) a.term)
    && are_indices sort y.indices a.index a.variables else true)
    && assignment_has_kinds spec sort M signatures scope ys a

abbrev pub step_has_kinds : Spec → Name → Carrier → List Signature → List StateVariable → Step
    → Bool
step_has_kinds spec sort M signatures ys a =
    is_plain (kind_in spec sort M signatures (extended a.variables []) a.guard)
    && list_all (assignment_has_kinds spec sort M signatures (extended a.variables []) ys)
    a.assignments

-- ---- formulas

abbrev pub values_have_kinds : Spec → Name → Carrier → List Signature → List Variable
    → List Variable → List (Option Term) → Bool
values_have_kinds spec sort M signatures scope (z ∷ zs) (Some x ∷ xs) =
    is_kind (kind_of sort z.sort) (kind_in spec sort M signatures scope x)
    && values_have_kinds spec sort M signatures scope zs xs
values_have_kinds spec sort M signatures scope (z ∷ zs) (None ∷ xs) =
    values_have_kinds spec sort M signatures scope zs xs
values_have_kinds spec sort M signatures scope zs [] = true
values_have_kinds spec sort M signatures scope [] (x ∷ xs) = true

abbrev pub set_has_kinds : Spec → Name → Carrier → List Signature → List Variable → StepSet → Step
    → Bool
set_has_kinds spec sort M signatures scope StepSet.All a = true
set_has_kinds spec sort M signatures scope (StepSet.Only y) a = true
set_has_kinds spec sort M signatures scope (StepSet.With y xs) a =
    if same_name y a.name then values_have_kinds spec sort M signatures scope a.variables xs
    else true
set_has_kinds spec sort M signatures scope (StepSet.Complement A) a =
    set_has_kinds spec sort M signatures scope A a
set_has_kinds spec sort M signatures scope (StepSet.Union A B) a =
    set_has_kinds spec sort M signatures scope A a
    && set_has_kinds spec sort M signatures scope B a

abbrev pub formula_has_kinds : Protocol → Name → Carrier → Signatures → List Variable → Formula
    → Bool
formula_has_kinds m sort M signatures scope (Formula.Truth b) = true
formula_has_kinds m sort M signatures scope (Formula.Data x) =
    is_plain (kind_in (data_of m) sort M signatures.at_states scope x)
formula_has_kinds m sort M signatures scope (Formula.Named X) = true
formula_has_kinds m sort M signatures scope (Formula.Not f) =
    formula_has_kinds m sort M signatures scope f
formula_has_kinds m sort M signatures scope (Formula.And f g) =
    formula_has_kinds m sort M signatures scope f && formula_has_kinds m sort M signatures scope g
formula_has_kinds m sort M signatures scope (Formula.Or f g) =
    formula_has_kinds m sort M signatures scope f && formula_has_kinds m sort M signatures scope g
formula_has_kinds m sort M signatures scope (Formula.Implies f g) =
    formula_has_kinds m sort M signatures scope f && formula_has_kinds m sort M signatures scope g
formula_has_kinds m sort M signatures scope (Formula.Box A f) =
    list_all (set_has_kinds (data_of m) sort M signatures.at_start scope A) m.steps
    && formula_has_kinds m sort M signatures scope f
formula_has_kinds m sort M signatures scope (Formula.Diamond A f) =
    list_all (set_has_kinds (data_of m) sort M signatures.at_start scope A) m.steps
    && formula_has_kinds m sort M signatures scope f
formula_has_kinds m sort M signatures scope (Formula.Fixpoint sign X f) =
    formula_has_kinds m sort M signatures scope f
formula_has_kinds m sort M signatures scope (Formula.Quantified q xs f) =
    formula_has_kinds m sort M signatures (extended xs scope) f

-- ---- what a protocol declares

-- a definition with the kind of its term, if that has one
abbrev pub tested_signature : Spec → Name → Carrier → List Signature → Definition → Signature
tested_signature spec sort M signatures d =
    definition_signature d (kind_in spec sort M signatures (extended d.parameters []) d.term)

-- after these the definitions, each given those before it
abbrev pub tested_signatures : Spec → Name → Carrier → List Signature → List Definition
    → List Signature
tested_signatures spec sort M signatures [] = signatures
tested_signatures spec sort M signatures (d ∷ ds) =
    tested_signatures spec sort M (tested_signature spec sort M signatures d ∷ signatures) ds

abbrev pub signatures_in : Protocol → Name → Carrier → Signatures
signatures_in m sort M = record {
  at_states =
      tested_signatures (data_of m) sort M (map (signature_of sort) m.variables) m.definitions;
  at_start = tested_signatures (data_of m) sort M [] m.definitions;
}

abbrev pub is_unknown : List Signature → Name → Bool
is_unknown signatures x = list_all (λ (s : Signature). not (same_name s.name x)) signatures

-- each definition has a name of its own
abbrev pub are_defined : Spec → Name → Carrier → List Signature → List Definition → Bool
are_defined spec sort M signatures [] = true
are_defined spec sort M signatures (d ∷ ds) =
    is_unknown signatures d.name
    && are_defined spec sort M (tested_signature spec sort M signatures d ∷ signatures) ds

-- and so has each state variable
abbrev pub have_own_names : List StateVariable → Bool
have_own_names [] = true
have_own_names (y ∷ ys) =
    list_all (λ (z : StateVariable). not (same_name y.name z.name)) ys && have_own_names ys

abbrev pub has_value : Carrier → Bool
has_value [] = false
has_value (v ∷ c) = true

-- the sort of each index has a value
abbrev pub indices_have_values : Spec → StateVariable → Bool
indices_have_values spec y =
    list_all (λ (x : Variable). has_value (carrier_of spec x.sort)) y.indices

-- a protocol is symmetric in a sort, of which the elements in M may be moved
abbrev pub is_symmetric : Protocol → Name → Carrier → Bool
is_symmetric m sort M =
    list_all (contains (carrier_of (data_of m) sort)) M && have_own_names m.variables
    && list_all (indices_have_values (data_of m)) m.variables
    && are_defined (data_of m) sort M (map (signature_of sort) m.variables) m.definitions
    && are_defined (data_of m) sort M [] m.definitions
    && list_all
    (step_has_kinds (data_of m) sort M (signatures_in m sort M).at_states m.variables) m.steps

-- ---- what passes has the kinds

abbrev pub TestedStepsHaveKinds : Type 0
TestedStepsHaveKinds =
    (spec : Spec) (sort : Name) (M : Carrier) (signatures : List Signature)
    (ys : List StateVariable) (a : Step) →
    step_has_kinds spec sort M signatures ys a ≡ true → StepHasKinds spec sort M signatures ys a

abbrev pub TestedFormulasHaveKinds : Type 0
TestedFormulasHaveKinds =
    (m : Protocol) (sort : Name) (M : Carrier) (signatures : Signatures) (scope : List Variable)
    (f : Formula) → formula_has_kinds m sort M signatures scope f ≡ true →
    FormulaHasKinds m sort M signatures scope f

abbrev pub TestedProtocolsAreSymmetric : Type 0
TestedProtocolsAreSymmetric =
    (m : Protocol) (sort : Name) (M : Carrier) → is_symmetric m sort M ≡ true →
    IsSymmetric m sort M (signatures_in m sort M)
