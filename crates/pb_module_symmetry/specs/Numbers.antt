-- Numbers of a text's instances, and maps of numbers along with maps of instances.
use Rattle.std.specs.Prelude.{◌≡◌, ℕ, zero, suc, nat_lt, Bool, true, List, [], ◌∷◌, length}
use Rattle.std.specs.Prelude.{Option, Some, None}
use Rattle.std.specs.List.{slice_get}
use Rattle.pb_sorts.specs.Instance as numbered
use Rattle.pb_sorts.specs.Instance.{instances}
use Rattle.pb_text_meaning.specs.Syntax.{Name, Equation, Spec}
use Rattle.pb_text_meaning.specs.Formula.{Instance, is_instance}
use Rattle.pb_typing_values.specs.Environment.{all_carriers}
use Rattle.pb_assembler_scheme.specs.Correct.{number_in}

-- a number that an instance has
abbrev pub is_number : Spec → ℕ → Bool
is_number spec n = nat_lt n (length (instances (all_carriers spec)))

-- the name of the equation at a place
abbrev pub equation_name : List Equation → ℕ → Name
equation_name [] k = []
equation_name (X ∷ E) zero = X.name
equation_name (X ∷ E) (suc k) = equation_name E k

abbrev pub named_instance : Spec → Option numbered.Instance → Instance
named_instance spec None = record { name = []; values = [] }
named_instance spec (Some i) =
    record { name = equation_name spec.equations i.equation; values = i.values }

-- the instance that has a number
abbrev pub instance_at : Spec → ℕ → Instance
instance_at spec n = named_instance spec (slice_get (instances (all_carriers spec)) n)

-- from a number to that of the image of its instance
abbrev pub along : Spec → (Instance → Instance) → ℕ → ℕ
along spec f n = number_in spec (f (instance_at spec n))

-- a map of instances that stays in each equation
pub record KeepsEquations (spec : Spec) (f : Instance → Instance) : Type 0 where
  pub names : (i : Instance) → (f i).name ≡ i.name
  pub known : (i : Instance) → is_instance spec i ≡ true → is_instance spec (f i) ≡ true
