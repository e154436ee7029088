-- What permutations of the elements of a sort obey: the value of a term of a kind is permuted with
-- what its names are (Ip and Dill 1996, there for the rules of a scalar set).
use Rattle.std.specs.Prelude.{◌≡◌, ⊤, List, [], ◌∷◌, Some, None}
use Rattle.pb_base_values.specs.Carrier.{Value, Carrier, Tuple}
use Rattle.pb_text_meaning.specs.Syntax.{Name, Variable, Term, Spec}
use Rattle.pb_text_meaning.specs.Sorts.{carrier_of}
use Rattle.pb_text_meaning.specs.Value.{Assignment}
use Rattle.pb_protocol_meaning.specs.Meaning.{Functions, meaning}
use Rattle.pb_protocol_symmetry.specs.Permutation.{IsPermutation, AreElements, Kind, kind_of, moved, all_moved, IsInKind, AreInKinds}
use Rattle.pb_protocol_symmetry.specs.Kinds.{Signature, IsAmong, IsUnknown, HasKind}

-- variables in scope have a value before and the permuted value after
abbrev pub AreCarried : Carrier → Name → (Value → Value) → List Variable → Assignment → Assignment
    → Type 0
AreCarried carrier sort p [] [] [] = ⊤
AreCarried carrier sort p (x ∷ scope) ((y, v) ∷ a) ((z, w) ∷ b) =
    (y ≡ x.name) × (z ≡ x.name) × (w ≡ moved p (kind_of sort x.sort) v)
    × IsInKind carrier (kind_of sort x.sort) v × AreCarried carrier sort p scope a b
AreCarried carrier sort p [] (_ ∷ a) b = ⊥
AreCarried carrier sort p [] [] (_ ∷ b) = ⊥
AreCarried carrier sort p (x ∷ scope) [] b = ⊥
AreCarried carrier sort p (x ∷ scope) (_ ∷ a) [] = ⊥

-- at arguments of its parameters' kinds, a function gives a value of its kind before, and after at
-- the permuted arguments the permuted value
pub record IsFunctionCarried (carrier : Carrier) (sort : Name) (p : Value → Value)
    (before after : Functions) (s : Signature) (k : Kind) (vs : Tuple) : Type 0 where
  pub value : Value
  pub first : before s.name vs ≡ Some value
  pub then_moved : after s.name (all_moved sort p s.parameters vs) ≡ Some (moved p k value)
  pub kind : IsInKind carrier k value

pub record AreFunctionsCarried (carrier : Carrier) (sort : Name) (p : Value → Value)
    (signatures : List Signature) (before after : Functions) : Type 0 where
  pub known : (s : Signature) → IsAmong signatures s → (k : Kind) → s.kind ≡ Some k → (vs : Tuple)
      → AreInKinds carrier sort s.parameters vs
      → IsFunctionCarried carrier sort p before after s k vs
  pub unknown : (x : Name) → IsUnknown signatures x → (vs : Tuple)
      → (before x vs ≡ None) × (after x vs ≡ None)

-- a term's value is permuted with the values of its names; an element is one of the sort
abbrev pub TermsAreCarried : Type 0
TermsAreCarried =
    (spec : Spec) (sort : Name) (M : Carrier) (p back : Value → Value) →
    IsPermutation M p back → AreElements (carrier_of spec sort) M →
    (signatures : List Signature) (before after : Functions) →
    AreFunctionsCarried (carrier_of spec sort) sort p signatures before after →
    (scope : List Variable) (k : Kind) (x : Term) → HasKind spec sort M signatures scope k x →
    (a b : Assignment) → AreCarried (carrier_of spec sort) sort p scope a b →
    (meaning spec after b x ≡ moved p k (meaning spec before a x))
    × IsInKind (carrier_of spec sort) k (meaning spec before a x)
