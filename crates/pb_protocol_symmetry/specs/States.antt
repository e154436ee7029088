-- A state whose elements are permuted, and the values of its variables and definitions then: an
-- array's elements are moved with its indices, and are permuted themselves (Ip and Dill 1996).
use Rattle.std.specs.Prelude.{◌≡◌, true, false, ⊤, List, [], ◌∷◌, ◌++◌, map, length, drop}
use Rattle.std.specs.Prelude.{Option, Some, None}
use Rattle.pb_base_values.specs.Carrier.{Value, Carrier, Tuple, contains}
use Rattle.pb_text_meaning.specs.Syntax.{Name, same_name, Variable, Spec}
use Rattle.pb_text_meaning.specs.Sorts.{carrier_of}
use Rattle.pb_model_meaning.specs.Steps.{State}
use Rattle.pb_protocol_meaning.specs.Syntax.{StateVariable, Definition, Protocol}
use Rattle.pb_protocol_meaning.specs.Steps.{data_of, indices_of, function_at, functions_at}
use Rattle.pb_protocol_symmetry.specs.Permutation.{IsPermutation, AreElements, Kind, kind_of}
use Rattle.pb_protocol_symmetry.specs.Permutation.{moved, all_moved}
use Rattle.pb_protocol_symmetry.specs.Kinds.{Signature, IsUnknown, extended, HasKind}
use Rattle.pb_protocol_symmetry.specs.Laws.{AreFunctionsCarried}

-- each variable has at an index the permuted value of what it had where the index came from
abbrev pub permuted : Spec → Name → (Value → Value) → (Value → Value) → List StateVariable → State
    → State
permuted spec sort p back [] s = []
permuted spec sort p back (y ∷ ys) s =
    map (λ (index : Tuple). moved p (kind_of sort y.sort)
    (function_at spec y s (all_moved sort back y.indices index))) (indices_of spec y)
    ++ permuted spec sort p back ys (drop (length (indices_of spec y)) s)

-- as many values of a carrier as there are indices, first in a state
abbrev pub BeginsWithValues : Carrier → List Tuple → State → Type 0
BeginsWithValues c [] s = ⊤
BeginsWithValues c (i ∷ is) [] = ⊥
BeginsWithValues c (i ∷ is) (v ∷ s) = (contains c v ≡ true) × BeginsWithValues c is s

-- a value for each variable at each index
abbrev pub AreValues : Spec → List StateVariable → State → Type 0
AreValues spec [] s = s ≡ []
AreValues spec (y ∷ ys) s =
    BeginsWithValues (carrier_of spec y.sort) (indices_of spec y) s
    × AreValues spec ys (drop (length (indices_of spec y)) s)

-- ---- names

abbrev pub NoneIsNamed : Name → List StateVariable → Type 0
NoneIsNamed x [] = ⊤
NoneIsNamed x (y ∷ ys) = (same_name x y.name ≡ false) × NoneIsNamed x ys

abbrev pub HaveOwnNames : List StateVariable → Type 0
HaveOwnNames [] = ⊤
HaveOwnNames (y ∷ ys) = NoneIsNamed y.name ys × HaveOwnNames ys

-- sorts of indices have values
abbrev pub HaveValues : Spec → List Variable → Type 0
HaveValues spec [] = ⊤
HaveValues spec (x ∷ xs) =
    ((v : Value) × (contains (carrier_of spec x.sort) v ≡ true)) × HaveValues spec xs

abbrev pub IndicesHaveValues : Spec → List StateVariable → Type 0
IndicesHaveValues spec [] = ⊤
IndicesHaveValues spec (y ∷ ys) = HaveValues spec y.indices × IndicesHaveValues spec ys

-- ---- signatures

abbrev pub signature_of : Name → StateVariable → Signature
signature_of sort y = record {
  name = y.name;
  parameters = y.indices;
  kind = Some (kind_of sort y.sort);
}

abbrev pub definition_signature : Definition → Option Kind → Signature
definition_signature d k = record { name = d.name; parameters = d.parameters; kind = k }

-- the term of a definition has its kind, if it has one
abbrev pub DefinitionHasKind : Spec → Name → Carrier → List Signature → Definition → Option Kind
    → Type 0
DefinitionHasKind spec sort M signatures d None = ⊤
DefinitionHasKind spec sort M signatures d (Some k) =
    HasKind spec sort M signatures (extended d.parameters []) k d.term

-- each definition has a kind or none, given those before it, and a name of its own
abbrev pub AreDefined : Spec → Name → Carrier → List Signature → List Definition → List Signature
    → Type 0
AreDefined spec sort M signatures [] all = all ≡ signatures
AreDefined spec sort M signatures (d ∷ ds) all =
    (k : Option Kind) × DefinitionHasKind spec sort M signatures d k
    × IsUnknown signatures d.name
    × AreDefined spec sort M (definition_signature d k ∷ signatures) ds all

-- the values of a protocol's variables and definitions are permuted where its state is
abbrev pub FunctionsAreCarried : Type 0
FunctionsAreCarried =
    (m : Protocol) (sort : Name) (M : Carrier) (p back : Value → Value) → IsPermutation M p back →
    AreElements (carrier_of (data_of m) sort) M →
    HaveOwnNames m.variables → IndicesHaveValues (data_of m) m.variables →
    (signatures : List Signature) →
    AreDefined (data_of m) sort M (map (signature_of sort) m.variables) m.definitions signatures →
    (s : State) → AreValues (data_of m) m.variables s →
    AreFunctionsCarried (carrier_of (data_of m) sort) sort p signatures (functions_at m s)
    (functions_at m (permuted (data_of m) sort p back m.variables s))
