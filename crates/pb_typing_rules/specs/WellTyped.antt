-- Which specifications may be solved: the relation on what a text says, without places.
use Rattle.std.specs.Prelude.{◌≡◌, ◌≤◌, ℕ, true, ⊤, List, [], ◌∷◌}
use Rattle.pb_text_meaning.specs.Syntax.{Formula, Equation, Spec}
use Rattle.pb_text_meaning.specs.Value.{values}
use Rattle.pb_text_meaning.specs.Formula.{is_instance}
use Rattle.pb_typing_declarations.specs.Instances.{all_instances}
use Rattle.pb_typing_declarations.specs.WellDeclared.{IsDeclared}
use Rattle.pb_typing_rules.specs.Scope.{Scope, outermost, bound}
use Rattle.pb_typing_rules.specs.Formula.{IsProper}

-- an equation's parameters
abbrev pub parameter_scope : Spec → Equation → Scope
parameter_scope spec X = bound spec X.parameters outermost

-- each right side is well typed under its equation's parameters, and positive
abbrev pub AreProper : Spec → List Equation → Type 0
AreProper spec [] = ⊤
AreProper spec (X ∷ E) = IsProper spec true (parameter_scope spec X) X.right × AreProper spec E

-- Declarations are as they must be, right sides are well typed and positive, and so is the initial
-- instance, whose values are in their parameters' carriers.
pub record IsWellTyped (spec : Spec) : Type 0 where
  pub declarations : IsDeclared spec
  pub rights : AreProper spec spec.equations
  pub initial : IsProper spec true outermost (Formula.Call spec.initial spec.arguments)
  pub values : is_instance spec
      (record { name = spec.initial; values = values spec [] spec.arguments }) ≡ true

-- It is, and declares no more instances than so many.
pub record IsWellTypedWithin (limit : ℕ) (spec : Spec) : Type 0 where
  pub typed : IsWellTyped spec
  pub few : all_instances spec spec.equations ≤ limit
