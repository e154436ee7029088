-- Steps that are the same where elements are permuted, and where they lead then (Ip and Dill 1996).
-- An assignment for all elements is one at once: its copies, in whatever order, assign at different
-- indices.
use Rattle.std.specs.Prelude.{◌≡◌, Bool, true, false, ◌&&◌, ◌||◌, ⊤, List, [], ◌∷◌, map}
use Rattle.std.specs.List.{list_any}
use Rattle.pb_base_values.specs.Carrier.{Value, Carrier, Tuple}
use Rattle.pb_text_meaning.specs.Syntax.{Name, same_name, Variable, Term, Terms, Spec}
use Rattle.pb_text_meaning.specs.Sorts.{carrier_of}
use Rattle.pb_model_meaning.specs.Steps.{State}
use Rattle.pb_protocol_meaning.specs.Syntax.{StateVariable, Assignment, Step, Protocol}
use Rattle.pb_protocol_meaning.specs.Steps.{data_of, is_enabled, next_state}
use Rattle.pb_protocol_symmetry.specs.Permutation.{IsPermutation, AreElements, Plain}
use Rattle.pb_protocol_symmetry.specs.Permutation.{kind_of, all_moved, AreInKinds}
use Rattle.pb_protocol_symmetry.specs.Kinds.{Signature, Signatures, extended, HasKind, HaveKinds}
use Rattle.pb_protocol_symmetry.specs.States.{permuted, AreValues, HaveOwnNames, IndicesHaveValues}
use Rattle.pb_protocol_symmetry.specs.States.{signature_of, AreDefined}

-- whether a term is a name
abbrev pub is_name : Name → Term → Bool
is_name x (Term.Named y) = same_name y x
is_name x t = false

-- whether a variable is by itself one of the indices of the sort
abbrev pub is_index : Name → Name → List Variable → Terms → Bool
is_index sort x (z ∷ zs) (Terms.Then t ts) =
    same_name z.sort sort && is_name x t || is_index sort x zs ts
is_index sort x (z ∷ zs) Terms.NoTerms = false
is_index sort x [] ts = false

-- whether one of the variables has the name
abbrev pub is_hidden : Name → List Variable → Bool
is_hidden x xs = list_any (λ (y : Variable). same_name y.name x) xs

-- the variables of the sort are indices, so that copies for different elements assign at different
-- indices
abbrev pub AreIndices : Name → List Variable → Terms → List Variable → Type 0
AreIndices sort zs index [] = ⊤
AreIndices sort zs index (x ∷ xs) =
    (same_name x.sort sort ≡ true →
    (is_index sort x.name zs index ≡ true) × (is_hidden x.name xs ≡ false))
    × AreIndices sort zs index xs

-- Indices and value of an assignment are of the kinds of the variable to which it assigns, where
-- its own variables are in scope.
abbrev pub AssignmentHasKinds : Spec → Name → Carrier → List Signature → List Variable
    → List StateVariable → Assignment → Type 0
AssignmentHasKinds spec sort M signatures scope [] a = ⊤
AssignmentHasKinds spec sort M signatures scope (y ∷ ys) a =
    (same_name a.variable y.name ≡ true →
    HaveKinds spec sort M signatures (extended a.variables scope) y.indices a.index
    × HasKind spec sort M signatures (extended a.variables scope) (kind_of sort y.sort) a.term
    × AreIndices sort y.indices a.index a.variables)
    × AssignmentHasKinds spec sort M signatures scope ys a

abbrev pub AssignmentsHaveKinds : Spec → Name → Carrier → List Signature → List Variable
    → List StateVariable → List Assignment → Type 0
AssignmentsHaveKinds spec sort M signatures scope ys [] = ⊤
AssignmentsHaveKinds spec sort M signatures scope ys (a ∷ assignments) =
    AssignmentHasKinds spec sort M signatures scope ys a
    × AssignmentsHaveKinds spec sort M signatures scope ys assignments

pub record StepHasKinds (spec : Spec) (sort : Name) (M : Carrier) (signatures : List Signature)
    (ys : List StateVariable) (a : Step) : Type 0 where
  pub guard : HasKind spec sort M signatures (extended a.variables []) Plain a.guard
  pub assignments :
      AssignmentsHaveKinds spec sort M signatures (extended a.variables []) ys a.assignments

-- what a protocol declares, for the elements of a sort of which those in M may be permuted
pub record AreDeclared (m : Protocol) (sort : Name) (M : Carrier) (signatures : Signatures)
    : Type 0 where
  pub elements : AreElements (carrier_of (data_of m) sort) M
  pub apart : HaveOwnNames m.variables
  pub indices : IndicesHaveValues (data_of m) m.variables
  pub at_states :
      AreDefined (data_of m) sort M (map (signature_of sort) m.variables) m.definitions
      signatures.at_states
  pub at_start : AreDefined (data_of m) sort M [] m.definitions signatures.at_start

-- A step is enabled at a permuted state for permuted values of its own variables where it is at the
-- state for the values, and then leads to where it leads, permuted.
pub record IsStepCarried (m : Protocol) (sort : Name) (p back : Value → Value) (a : Step)
    (s : State) (own : Tuple) : Type 0 where
  pub enabled :
      is_enabled m (permuted (data_of m) sort p back m.variables s) a
      (all_moved sort p a.variables own) ≡ is_enabled m s a own
  pub next :
      next_state m (permuted (data_of m) sort p back m.variables s) a
      (all_moved sort p a.variables own)
      ≡ permuted (data_of m) sort p back m.variables (next_state m s a own)

abbrev pub PermutedStepsAreSteps : Type 0
PermutedStepsAreSteps =
    (m : Protocol) (sort : Name) (M : Carrier) (signatures : Signatures) →
    AreDeclared m sort M signatures → (p back : Value → Value) → IsPermutation M p back →
    (a : Step) → StepHasKinds (data_of m) sort M signatures.at_states m.variables a →
    (s : State) → AreValues (data_of m) m.variables s →
    (own : Tuple) → AreInKinds (carrier_of (data_of m) sort) sort a.variables own →
    IsStepCarried m sort p back a s own
