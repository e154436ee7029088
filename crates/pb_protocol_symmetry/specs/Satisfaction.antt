-- Formulas that are the same where elements are permuted, and the states that satisfy them: those
-- of a symmetric protocol are closed under permutations (Ip and Dill 1996; Emerson and Sistla
-- 1996).
use Rattle.std.specs.Prelude.{◌≡◌, Bool, true, ⊤, if◌then◌else◌, List, [], ◌∷◌, length}
use Rattle.std.specs.Prelude.{Option, Some, None}
use Rattle.std.specs.List.{list_any, list_all}
use Rattle.pb_base_values.specs.Carrier.{Value, Carrier}
use Rattle.pb_text_meaning.specs.Syntax.{Name, same_name, Variable, Term, Spec}
use Rattle.pb_text_meaning.specs.Sorts.{carrier_of}
use Rattle.pb_text_meaning.specs.Value.{Assignment}
use Rattle.pb_model_meaning.specs.Steps.{State}
use Rattle.pb_model_meaning.specs.Satisfaction.{States, Valuation}
use Rattle.pb_protocol_meaning.specs.Syntax.{StateVariable, Step, StepSet, Formula, Protocol}
use Rattle.pb_protocol_meaning.specs.Steps.{data_of, positions, is_state, successors}
use Rattle.pb_protocol_meaning.specs.Satisfaction.{satisfying}
use Rattle.pb_protocol_symmetry.specs.Permutation.{IsPermutation, Plain, kind_of}
use Rattle.pb_protocol_symmetry.specs.Kinds.{Signature, Signatures, extended, HasKind}
use Rattle.pb_protocol_symmetry.specs.States.{permuted}
use Rattle.pb_protocol_symmetry.specs.Steps.{StepHasKinds, AreDeclared}
use Rattle.pb_protocol_symmetry.specs.Laws.{AreCarried}

-- ---- formulas

-- values of a step's own variables that are named in a set: terms of their kinds, which may name
-- definitions, and not the state
abbrev pub ValuesHaveKinds : Spec → Name → Carrier → List Signature → List Variable
    → List Variable → List (Option Term) → Type 0
ValuesHaveKinds spec sort M signatures scope (z ∷ zs) (Some x ∷ xs) =
    HasKind spec sort M signatures scope (kind_of sort z.sort) x
    × ValuesHaveKinds spec sort M signatures scope zs xs
ValuesHaveKinds spec sort M signatures scope (z ∷ zs) (None ∷ xs) =
    ValuesHaveKinds spec sort M signatures scope zs xs
ValuesHaveKinds spec sort M signatures scope zs [] = ⊤
ValuesHaveKinds spec sort M signatures scope [] (x ∷ xs) = ⊤

-- a set of steps, as it reads one step
abbrev pub SetHasKinds : Spec → Name → Carrier → List Signature → List Variable → StepSet → Step
    → Type 0
SetHasKinds spec sort M signatures scope StepSet.All a = ⊤
SetHasKinds spec sort M signatures scope (StepSet.Only y) a = ⊤
SetHasKinds spec sort M signatures scope (StepSet.With y xs) a =
    same_name y a.name ≡ true → ValuesHaveKinds spec sort M signatures scope a.variables xs
SetHasKinds spec sort M signatures scope (StepSet.Complement A) a =
    SetHasKinds spec sort M signatures scope A a
SetHasKinds spec sort M signatures scope (StepSet.Union A B) a =
    SetHasKinds spec sort M signatures scope A a × SetHasKinds spec sort M signatures scope B a

abbrev pub SetHasKindsAt : Spec → Name → Carrier → List Signature → List Variable → StepSet
    → List Step → Type 0
SetHasKindsAt spec sort M signatures scope A [] = ⊤
SetHasKindsAt spec sort M signatures scope A (a ∷ steps) =
    SetHasKinds spec sort M signatures scope A a
    × SetHasKindsAt spec sort M signatures scope A steps

-- data terms are read at states, sets of steps where there is no state
abbrev pub FormulaHasKinds : Protocol → Name → Carrier → Signatures → List Variable → Formula
    → Type 0
FormulaHasKinds m sort M signatures scope (Formula.Truth b) = ⊤
FormulaHasKinds m sort M signatures scope (Formula.Data x) =
    HasKind (data_of m) sort M signatures.at_states scope Plain x
FormulaHasKinds m sort M signatures scope (Formula.Named X) = ⊤
FormulaHasKinds m sort M signatures scope (Formula.Not f) =
    FormulaHasKinds m sort M signatures scope f
FormulaHasKinds m sort M signatures scope (Formula.And f g) =
    FormulaHasKinds m sort M signatures scope f × FormulaHasKinds m sort M signatures scope g
FormulaHasKinds m sort M signatures scope (Formula.Or f g) =
    FormulaHasKinds m sort M signatures scope f × FormulaHasKinds m sort M signatures scope g
FormulaHasKinds m sort M signatures scope (Formula.Implies f g) =
    FormulaHasKinds m sort M signatures scope f × FormulaHasKinds m sort M signatures scope g
FormulaHasKinds m sort M signatures scope (Formula.Box A f) =
    SetHasKindsAt (data_of m) sort M signatures.at_start scope A m.steps
    × FormulaHasKinds m sort M signatures scope f
FormulaHasKinds m sort M signatures scope (Formula.Diamond A f) =
    SetHasKindsAt (data_of m) sort M signatures.at_start scope A m.steps
    × FormulaHasKinds m sort M signatures scope f
FormulaHasKinds m sort M signatures scope (Formula.Fixpoint sign X f) =
    FormulaHasKinds m sort M signatures scope f
FormulaHasKinds m sort M signatures scope (Formula.Quantified q xs f) =
    FormulaHasKinds m sort M signatures (extended xs scope) f

-- ---- protocols

abbrev pub StepsHaveKinds : Spec → Name → Carrier → List Signature → List StateVariable
    → List Step → Type 0
StepsHaveKinds spec sort M signatures ys [] = ⊤
StepsHaveKinds spec sort M signatures ys (a ∷ steps) =
    StepHasKinds spec sort M signatures ys a × StepsHaveKinds spec sort M signatures ys steps

-- A protocol is the same where the elements in M of a sort are permuted. Its initial state may name
-- elements.
pub record IsSymmetric (m : Protocol) (sort : Name) (M : Carrier) (signatures : Signatures)
    : Type 0 where
  pub declared : AreDeclared m sort M signatures
  pub steps : StepsHaveKinds (data_of m) sort M signatures.at_states m.variables m.steps

-- a permuted state is a state where the state is one
abbrev pub PermutedStatesAreStates : Type 0
PermutedStatesAreStates =
    (m : Protocol) (sort : Name) (M : Carrier) (signatures : Signatures) →
    IsSymmetric m sort M signatures → (p back : Value → Value) → IsPermutation M p back →
    (s : State) → is_state m s ≡ true →
    is_state m (permuted (data_of m) sort p back m.variables s) ≡ true

-- Permuting back undoes it; and a permuted state is within the ranges exactly where it was. So of
-- all lists with as many values as there are positions, also of those that leave the ranges.
abbrev pub PermutationsAreUndone : Type 0
PermutationsAreUndone =
    (m : Protocol) (sort : Name) (M : Carrier) (signatures : Signatures) →
    IsSymmetric m sort M signatures → (p back : Value → Value) → IsPermutation M p back →
    (s : State) → length s ≡ length (positions m) →
    permuted (data_of m) sort back p m.variables (permuted (data_of m) sort p back m.variables s)
    ≡ s

abbrev pub RangesArePermuted : Type 0
RangesArePermuted =
    (m : Protocol) (sort : Name) (M : Carrier) (signatures : Signatures) →
    IsSymmetric m sort M signatures → (p back : Value → Value) → IsPermutation M p back →
    (s : State) → length s ≡ length (positions m) →
    is_state m (permuted (data_of m) sort p back m.variables s) ≡ is_state m s

-- a set of states, where all that lies outside the ranges counts as one
abbrev pub seen : Protocol → States → Bool → States
seen m S b s = if is_state m s then S s else b

-- a set of steps leads from a permuted state where it leads from the state, permuted
abbrev pub SuccessorsArePermuted : Type 0
SuccessorsArePermuted =
    (m : Protocol) (sort : Name) (M : Carrier) (signatures : Signatures) →
    IsSymmetric m sort M signatures → (p back : Value → Value) → IsPermutation M p back →
    (scope : List Variable) (c d : Assignment) →
    AreCarried (carrier_of (data_of m) sort) sort p scope c d →
    (A : StepSet) → SetHasKindsAt (data_of m) sort M signatures.at_start scope A m.steps →
    (s : State) → is_state m s ≡ true → (S : States) (b : Bool) →
    (list_all (seen m S b) (successors m d A (permuted (data_of m) sort p back m.variables s))
    ≡ list_all (seen m (λ r. S (permuted (data_of m) sort p back m.variables r)) b)
    (successors m c A s)) ×
    (list_any (seen m S b) (successors m d A (permuted (data_of m) sort p back m.variables s))
    ≡ list_any (seen m (λ r. S (permuted (data_of m) sort p back m.variables r)) b)
    (successors m c A s))

-- a permuted state satisfies a formula where the state does, if sets and quantifiers' variables are
-- permuted along
abbrev pub SatisfactionIsPermuted : Type 0
SatisfactionIsPermuted =
    (m : Protocol) (sort : Name) (M : Carrier) (signatures : Signatures) →
    IsSymmetric m sort M signatures → (p back : Value → Value) → IsPermutation M p back →
    (f : Formula) (scope : List Variable) → FormulaHasKinds m sort M signatures scope f →
    (V W : Valuation) →
    ((X : Name) (s : State) → is_state m s ≡ true →
    W X (permuted (data_of m) sort p back m.variables s) ≡ V X s) →
    (c d : Assignment) → AreCarried (carrier_of (data_of m) sort) sort p scope c d →
    (s : State) → is_state m s ≡ true →
    satisfying m W d f (permuted (data_of m) sort p back m.variables s) ≡ satisfying m V c f s
