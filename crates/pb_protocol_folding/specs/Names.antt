-- Names that are apart, and enumerators that no variable hides.
use Rattle.std.specs.Prelude.{◌≡◌, ℕ, false, ⊤, List, [], ◌∷◌, map, flat_map, Some, None}
use Rattle.pb_text_meaning.specs.Syntax.{Name, same_name, Variable, Enumerator, Sort, Struct}
use Rattle.pb_text_meaning.specs.Syntax.{Alias, SortDeclaration, Spec}
use Rattle.pb_text_meaning.specs.Sorts.{place_in}
use Rattle.pb_text_meaning.specs.Value as data_value
use Rattle.pb_text_meaning.specs.Value.{looked_up}
use Rattle.pb_model_meaning.specs.Syntax.{Assignment, Step}

-- x is none of these names
abbrev pub IsNot : Name → List Name → Type 0
IsNot x [] = ⊤
IsNot x (y ∷ ys) = (same_name y x ≡ false) × IsNot x ys

-- no two names are one
abbrev pub AreDistinct : List Name → Type 0
AreDistinct [] = ⊤
AreDistinct (x ∷ xs) = IsNot x xs × AreDistinct xs

-- none of the first is one of the second
abbrev pub AreNot : List Name → List Name → Type 0
AreNot [] ys = ⊤
AreNot (x ∷ xs) ys = IsNot x ys × AreNot xs ys

abbrev pub names_of : List Variable → List Name
names_of xs = map (λ (x : Variable). x.name) xs

-- ---- enumerators

abbrev pub names_in : Sort → List Name
names_in (Struct es) = map (λ (e : Enumerator). e.name) es
names_in (Alias s) = []

abbrev pub enumerators_in : List SortDeclaration → List Name
enumerators_in ds = flat_map (λ (d : SortDeclaration). names_in d.sort) ds

-- no variable has an enumerator's name
abbrev pub HidesNoEnumerator : Spec → data_value.Assignment → Type 0
HidesNoEnumerator spec a =
    (x : Name) (n : ℕ) → place_in (λ e. same_name e.name x) spec.sorts ≡ Some n →
    looked_up a x ≡ None

-- ---- steps

-- no own variable of a step has one of these names
abbrev pub HaveNoneOf : List Name → List Step → Type 0
HaveNoneOf names [] = ⊤
HaveNoneOf names (a ∷ steps) = AreNot names (names_of a.variables) × HaveNoneOf names steps

-- no step assigns a variable twice
abbrev pub AssignOnce : List Step → Type 0
AssignOnce [] = ⊤
AssignOnce (a ∷ steps) =
    AreDistinct (map (λ (b : Assignment). b.variable) a.assignments) × AssignOnce steps
