-- The structs that are declared, by their numbers, and which shapes and enumerators there are.
use Rattle.std.specs.Prelude.{◌≡◌, ℕ, ◌<◌, ◌≤◌, ◌≤ℤ◌, nat_lt, Bool, ⊤, List, [], ◌∷◌, length, Some, unwrap_or}
use Rattle.std.specs.List.{All, slice_get}
use Rattle.pb_base.specs.declared.limits.TheConstants.{MAX_STRUCTS, MAX_ENUMERATORS}
use Rattle.pb_text_meaning.specs.Syntax.{Sort, Struct, Alias, SortDeclaration, Equation, Spec}
use Rattle.pb_typing_declarations.specs.Shapes.{Shape, Unknown, Truths, Places, Wholes}
use Rattle.pb_normal.specs.Loops.{equation_loops, variable_shapes}

abbrev pub with_count : Sort → List ℕ → List ℕ
with_count (Struct es) counts = length es ∷ counts
with_count (Alias s) counts = counts

-- how many enumerators each struct has, in order
abbrev pub struct_counts : List SortDeclaration → List ℕ
struct_counts [] = []
struct_counts (d ∷ ds) = with_count d.sort (struct_counts ds)

-- at most MAX_STRUCTS structs, each with 1 to MAX_ENUMERATORS enumerators
pub record AreFew (counts : List ℕ) : Type 0 where
  pub structs : length counts ≤ MAX_STRUCTS
  pub enumerators : All (λ (n : ℕ). (0 < n) × (n ≤ MAX_ENUMERATORS)) counts

-- the struct with this number has an enumerator at this place
abbrev pub has_enumerator : List ℕ → (sort place : ℕ) → Bool
has_enumerator counts sort place = nat_lt place (unwrap_or (slice_get counts sort) 0)

-- a shape of values that there are
abbrev pub IsDeclaredShape : List ℕ → Shape → Type 0
IsDeclaredShape counts Unknown = ⊥
IsDeclaredShape counts Truths = ⊤
IsDeclaredShape counts (Places s n) = (slice_get counts s ≡ Some n) × (0 < n)
IsDeclaredShape counts (Wholes l h) = l ≤ℤ h

-- so are those of an equation's parameters and of the variables of its quantifiers
pub record HasDeclaredShapes (spec : Spec) (X : Equation) : Type 0 where
  pub parameters : All (IsDeclaredShape (struct_counts spec.sorts))
      (variable_shapes spec X.parameters)
  pub loops : All (IsDeclaredShape (struct_counts spec.sorts)) (equation_loops spec X)

-- those of each equation
abbrev pub HaveDeclaredShapes : Spec → Type 0
HaveDeclaredShapes spec = All (HasDeclaredShapes spec) spec.equations
