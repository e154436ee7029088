-- Permutations of the elements of a sort, of which some may be moved and the others stay: a scalar
-- set (Ip and Dill 1996), with elements that are named left out. And the two kinds of values, of
-- which a permutation moves one.
use Rattle.std.specs.Prelude.{◌≡◌, true, false, ⊤, if◌then◌else◌, List, [], ◌∷◌}
use Rattle.pb_base_values.specs.Carrier.{Value, Carrier, Tuple, contains}
use Rattle.pb_text_meaning.specs.Syntax.{Name, same_name, Variable}

-- A permutation moves values of M alone, and `back` undoes it.
pub record IsPermutation (M : Carrier) (p back : Value → Value) : Type 0 where
  pub there : (v : Value) → p (back v) ≡ v
  pub here : (v : Value) → back (p v) ≡ v
  pub fixes : (v : Value) → contains M v ≡ false → p v ≡ v

-- values of M are elements of the sort
abbrev pub AreElements : Carrier → Carrier → Type 0
AreElements carrier M = (v : Value) → contains M v ≡ true → contains carrier v ≡ true

-- an element of the sort, or any other value
pub data Kind : Type 0 where
  Element : Kind
  Plain : Kind

abbrev pub kind_of : Name → Name → Kind
kind_of sort x = if same_name x sort then Element else Plain

-- elements are permuted, and other values stay
abbrev pub moved : (Value → Value) → Kind → Value → Value
moved p Element v = p v
moved p Plain v = v

abbrev pub all_moved : Name → (Value → Value) → List Variable → Tuple → Tuple
all_moved sort p (x ∷ xs) (v ∷ vs) = moved p (kind_of sort x.sort) v ∷ all_moved sort p xs vs
all_moved sort p [] vs = vs
all_moved sort p (x ∷ xs) [] = []

-- what is an element is one of the carrier
abbrev pub IsInKind : Carrier → Kind → Value → Type 0
IsInKind carrier Element v = contains carrier v ≡ true
IsInKind carrier Plain v = ⊤

abbrev pub AreInKinds : Carrier → Name → List Variable → Tuple → Type 0
AreInKinds carrier sort [] [] = ⊤
AreInKinds carrier sort (x ∷ xs) (v ∷ vs) =
    IsInKind carrier (kind_of sort x.sort) v × AreInKinds carrier sort xs vs
AreInKinds carrier sort [] (v ∷ vs) = ⊥
AreInKinds carrier sort (x ∷ xs) [] = ⊥
