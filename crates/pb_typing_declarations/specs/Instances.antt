-- How many instances predicate variables have.
use Rattle.std.specs.Prelude.{ℕ, ◌+◌, List, [], ◌∷◌}
use Rattle.pb_base_values.specs.Carrier.{tuple_count}
use Rattle.pb_text_meaning.specs.Syntax.{Equation, Spec}
use Rattle.pb_text_meaning.specs.Formula.{carriers_of}

-- a tuple of values for each way to choose one of each parameter's carrier
abbrev pub instance_count : Spec → Equation → ℕ
instance_count spec X = tuple_count (carriers_of spec X.parameters)

abbrev pub all_instances : Spec → List Equation → ℕ
all_instances spec [] = 0
all_instances spec (X ∷ E) = instance_count spec X + all_instances spec E
