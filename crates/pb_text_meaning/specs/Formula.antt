-- The truth of a formula as it is written, under an assignment and an environment.
use Rattle.std.specs.Prelude.{Bool, false, not, ◌&&◌, ◌||◌, List, map, Option, Some, None}
use Rattle.std.specs.List.{find}
use Rattle.pb_fixpoint.specs.Solution.{Environment}
use Rattle.pb_text_meaning.specs.Syntax.{Name, same_name, Variable, Formula, Equation, Spec}
use Rattle.pb_base_values.specs.Carrier.{Carrier, Tuple, is_within}
use Rattle.pb_text_meaning.specs.Sorts.{carrier_of}
use Rattle.pb_text_meaning.specs.Value.{Assignment, quantified, is_true, value, values}

-- a predicate variable with one value for each parameter
pub record Instance : Type 0 where
  pub name : Name
  pub values : Tuple

abbrev pub carriers_of : Spec → List Variable → List Carrier
carriers_of spec xs = map (λ (x : Variable). carrier_of spec x.sort) xs

-- each value is in its parameter's carrier
abbrev pub fits : Spec → Option Equation → Tuple → Bool
fits spec None vs = false
fits spec (Some X) vs = is_within (carriers_of spec X.parameters) vs

abbrev pub equation_named : List Equation → Name → Option Equation
equation_named E x = find (λ X. same_name X.name x) E

-- an instance with its values in their carriers
abbrev pub is_instance : Spec → Instance → Bool
is_instance spec i = fits spec (equation_named spec.equations i.name) i.values

-- X(e): its values are in their carriers and it counts as true
abbrev pub call_truth : Spec → Environment Instance → Instance → Bool
call_truth spec t i = is_instance spec i && t i

abbrev pub truth : Spec → Assignment → Environment Instance → Formula → Bool
truth spec a t (Formula.Truth b) = b
truth spec a t (Formula.Val x) = is_true (value spec a x)
truth spec a t (Formula.Not f) = not (truth spec a t f)
truth spec a t (Formula.And f g) = truth spec a t f && truth spec a t g
truth spec a t (Formula.Or f g) = truth spec a t f || truth spec a t g
truth spec a t (Formula.Implies f g) = not (truth spec a t f) || truth spec a t g
truth spec a t (Formula.Quantified q xs f) = quantified spec q xs (λ b. truth spec b t f) a
truth spec a t (Formula.Call X es) =
    call_truth spec t (record { name = X; values = values spec a es })
