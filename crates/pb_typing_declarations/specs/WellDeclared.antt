-- What may be declared: the relation on what a text says, without places.
use Rattle.std.specs.Prelude.{ℕ, ◌≡◌, ◌≢◌, ◌<◌, ◌≤◌, ◌≤ℤ◌, true, false, Bool, List, [], ◌∷◌, map}
use Rattle.std.specs.Prelude.{flat_map, length, All, AllPairs, Option, Some, None}
use Rattle.pb_base.specs.declared.limits.TheConstants.{MAX_STRUCTS, MAX_ENUMERATORS, MAX_EQUATIONS}
use Rattle.pb_base.specs.declared.limits.TheConstants.{MAX_PARAMETERS}
use Rattle.pb_sorts.specs.declared.counting.TheConstants.{MAX_NUMBERS}
use Rattle.pb_base.specs.declared.limits.TheConstants.{MAX_NAME_BYTES}
use Rattle.pb_text_meaning.specs.Syntax.{Name, Variable, Enumerator, Sort, Struct, Alias}
use Rattle.pb_text_meaning.specs.Syntax.{SortDeclaration, Range, Equation, Spec}
use Rattle.pb_typing_declarations.specs.Shapes.{End, Shaped, Unranged, Undeclared, Endless, end_of}
use Rattle.pb_typing_declarations.specs.Shapes.{base_of, is_sort, is_built_in, number_behind}
use Rattle.pb_typing_declarations.specs.Declarations.{is_endless, is_faulty, is_integer}
use Rattle.pb_typing_declarations.specs.Declarations.{may_begin_at, is_named_function}
use Rattle.pb_typing_declarations.specs.Instances.{all_instances}

-- no name stands twice
abbrev pub AreApart : List Name → Type 0
AreApart xs = AllPairs (λ (x y : Name). x ≢ y) xs

-- ---- sorts and ranges

-- a struct has 1 to MAX_ENUMERATORS enumerators; an alias's target is a sort, and its chain has an
-- end
abbrev pub IsWellDefined : Spec → Name → Sort → Type 0
IsWellDefined spec s (Struct es) = (0 < length es) × (length es ≤ MAX_ENUMERATORS)
IsWellDefined spec s (Alias target) =
    (is_sort spec target ≡ true) × (is_endless (base_of spec s) ≡ false)

-- each sort that is declared has an end, with its ranges and without
pub record HaveEnds (spec : Spec) : Type 0 where
  pub ends : (s : Name) → is_faulty (is_sort spec s) (end_of spec s) ≡ false
  pub bases : (s : Name) → is_faulty (is_sort spec s) (base_of spec s) ≡ false

-- how many structs stand in a list, where n stand before it
abbrev pub structs_behind : ℕ → List SortDeclaration → ℕ
structs_behind n [] = n
structs_behind n (d ∷ ds) = structs_behind (number_behind n d.sort) ds

-- the range of an integer sort, which begins at its least value or above and isn't empty
pub record IsRanged (spec : Spec) (r : Range) : Type 0 where
  pub integer : is_integer (base_of spec r.name) ≡ true
  pub least : may_begin_at r.low (base_of spec r.name) ≡ true
  pub order : r.low ≤ℤ r.high

-- ---- enumerators and recognisers

abbrev pub enumerators : Sort → List Enumerator
enumerators (Struct es) = es
enumerators (Alias s) = []

abbrev pub every_enumerator : List SortDeclaration → List Enumerator
every_enumerator ds = flat_map (λ (d : SortDeclaration). enumerators d.sort) ds

abbrev pub name_if_any : Option Name → List Name
name_if_any None = []
name_if_any (Some x) = x ∷ []

-- an enumerator's name and its recogniser's
abbrev pub enumerator_names : Enumerator → List Name
enumerator_names e = e.name ∷ name_if_any e.recogniser

-- ---- variables

-- a sort that has values
abbrev pub has_shape : End → Bool
has_shape (Shaped h) = true
has_shape (Unranged k) = false
has_shape Undeclared = false
has_shape Endless = false

-- one list of variables: names apart, and each of a sort that has values
pub record AreVariables (spec : Spec) (xs : List Variable) : Type 0 where
  pub apart : AreApart (map (λ (x : Variable). x.name) xs)
  pub shaped : All (λ (x : Variable). has_shape (end_of spec x.sort) ≡ true) xs

-- ---- all

-- Sorts, ranges, enumerators with their recognisers, and predicate variables are declared once,
-- each in its own name space, as they must be, and within the limits.
pub record IsDeclared (spec : Spec) : Type 0 where
  pub sorts : AreApart (map (λ (d : SortDeclaration). d.name) spec.sorts)
  pub new_sorts : All (λ (d : SortDeclaration). is_built_in d.name ≡ false) spec.sorts
  pub defined : All (λ (d : SortDeclaration). IsWellDefined spec d.name d.sort) spec.sorts
  pub few_structs : structs_behind 0 spec.sorts ≤ MAX_STRUCTS
  pub ranges : AreApart (map (λ (r : Range). r.name) spec.ranges)
  pub ranged : All (IsRanged spec) spec.ranges
  pub enumerators : AreApart (flat_map enumerator_names (every_enumerator spec.sorts))
  pub short_enumerators :
      All (λ (e : Enumerator). length e.name ≤ MAX_NAME_BYTES) (every_enumerator spec.sorts)
  pub new_functions :
      All (λ (e : Enumerator). All (λ x. is_named_function x ≡ false) (name_if_any e.recogniser))
      (every_enumerator spec.sorts)
  pub predicate_variables : AreApart (map (λ (X : Equation). X.name) spec.equations)
  pub short_predicate_variables :
      All (λ (X : Equation). length X.name ≤ MAX_NAME_BYTES) spec.equations
  pub few_equations : length spec.equations ≤ MAX_EQUATIONS
  pub few_parameters : All (λ (X : Equation). length X.parameters ≤ MAX_PARAMETERS) spec.equations
  pub parameters : All (λ (X : Equation). AreVariables spec X.parameters) spec.equations
  pub few_instances : all_instances spec spec.equations ≤ MAX_NUMBERS

-- it is, and declares no more instances than so many
pub record IsDeclaredWithin (limit : ℕ) (spec : Spec) : Type 0 where
  pub declared : IsDeclared spec
  pub few : all_instances spec spec.equations ≤ limit
