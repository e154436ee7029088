-- The variables in scope.
use Rattle.std.specs.Prelude.{ℤ, if◌then◌else◌, ⊤, List, [], ◌∷◌, Option, Some, None}
use Rattle.pb_text_meaning.specs.Syntax.{Name, same_name, Variable, Spec}
use Rattle.pb_text_meaning.specs.Value.{Assignment, looked_up}
use Rattle.pb_typing_declarations.specs.Shapes.{Shape, sort_shape}
use Rattle.pb_typing_declarations.specs.Enumerators.{enumerator_shape}
use Rattle.pb_typing_rules.specs.Shapes.{IsValueOf}

-- the shape of a variable's carrier, if the variable is in scope
abbrev pub Scope : Type 0
Scope = Name → Option Shape

abbrev pub outermost : Scope
outermost x = None

-- an inner variable hides an outer one of its name
abbrev pub declare : Name → Shape → Scope → Scope
declare y s scope = λ x. if same_name y x then Some s else scope x

abbrev pub bound : Spec → List Variable → Scope → Scope
bound spec [] scope = scope
bound spec (x ∷ xs) scope = bound spec xs (declare x.name (sort_shape spec x.sort) scope)

-- a variable's shape, else that of an enumerator, which a variable hides
abbrev pub shape_or : Option Shape → Option Shape → Option Shape
shape_or None o = o
shape_or (Some s) o = Some s

abbrev pub named_shape : Spec → Scope → Name → Option Shape
named_shape spec scope x = shape_or (scope x) (enumerator_shape spec x)

-- ---- assignments

abbrev pub AgreeWithShape : Option ℤ → Option Shape → Type 0
AgreeWithShape None None = ⊤
AgreeWithShape (Some v) (Some s) = IsValueOf s v
AgreeWithShape None (Some s) = ⊥
AgreeWithShape (Some v) None = ⊥

-- the assignment has a value of each variable in scope, one of its shape, and of no other
abbrev pub IsWithinScope : Assignment → Scope → Type 0
IsWithinScope a scope = (x : Name) → AgreeWithShape (looked_up a x) (scope x)
