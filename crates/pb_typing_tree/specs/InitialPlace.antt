-- The initial instance by the place of its equation.
use Rattle.std.specs.Prelude.{◌≡◌, ℕ, true, [], Some}
use Rattle.std.specs.List.{slice_get, position_or_len}
use Rattle.pb_base_values.specs.Carrier.{Tuple, is_within}
use Rattle.pb_text_meaning.specs.Syntax.{same_name, Equation, Spec}
use Rattle.pb_text_meaning.specs.Value.{values}
use Rattle.pb_text_meaning.specs.Formula.{carriers_of}

-- the place of the equation that the initial instance names
abbrev pub initial_place : Spec → ℕ
initial_place spec =
    position_or_len (λ (X : Equation). same_name X.name spec.initial) spec.equations

-- the values of its arguments
abbrev pub initial_values : Spec → Tuple
initial_values spec = values spec [] spec.arguments

-- its equation is there, and its values are in the carriers of the equation's parameters
pub record HasInitial (spec : Spec) : Type 0 where
  pub equation : Equation
  pub there : slice_get spec.equations (initial_place spec) ≡ Some equation
  pub within : is_within (carriers_of spec equation.parameters) (initial_values spec) ≡ true

-- an instance, by the place of its equation and its values, is the initial one
pub record IsInitial (spec : Spec) (place : ℕ) (vs : Tuple) : Type 0 where
  pub equation : place ≡ initial_place spec
  pub values : vs ≡ initial_values spec
