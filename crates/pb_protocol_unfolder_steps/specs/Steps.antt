-- What steps with their values become, and the initial state, as the code goes through them.
use Rattle.std.specs.Prelude.{◌≡◌, ℕ, zero, suc, Bool, false, if◌then◌else◌, List, [], ◌∷◌, map}
use Rattle.std.specs.Prelude.{filter, flat_map, Option, Some, None, IfSome}
use Rattle.pb_text_tree.specs.declared.place.Place.{Place}
use Rattle.pb_text_meaning.specs.Syntax.{Name, Term}
use Rattle.pb_model_tree.specs.declared.step.Assignment as declared_assignment
use Rattle.pb_model_tree.specs.declared.step.Step as declared_step
use Rattle.pb_model_tree.specs.Form.{assignment_form, step_form}
use Rattle.pb_model_meaning.specs.Syntax as flat
use Rattle.pb_model_meaning.specs.Erase.{erased_assignment, erased_step}
use Rattle.pb_protocol_folding.specs.Folding.{folded}
use Rattle.pb_protocol_folding.specs.FoldedModels.{folded_assignments, folded_step, is_name, is_possible}
use Rattle.pb_protocol_tree.specs.declared.step.Assignment as protocol_assignment
use Rattle.pb_protocol_tree.specs.Form as protocol_form
use Rattle.pb_protocol_meaning.specs.Erase as protocol_erase
use Rattle.pb_protocol_meaning.specs.Syntax.{Assignment, Protocol}
use Rattle.pb_protocol_meaning.specs.Steps.{data_of}
use Rattle.pb_protocol_unfolding.specs.PutIn.{TermScope}
use Rattle.pb_protocol_unfolding.specs.Unfolding.{Element, Instance, unfolded_assignment}
use Rattle.pb_protocol_unfolding.specs.Unfolding.{unfolded_step}

abbrev pub step_assignment : declared_assignment.Assignment → flat.Assignment
step_assignment a = erased_assignment (assignment_form a)

abbrev pub protocol_assignments : List protocol_assignment.Assignment → List Assignment
protocol_assignments bs =
    map protocol_erase.erased_assignment (map protocol_form.assignment_form bs)

abbrev pub step_said : declared_step.Step → flat.Step
step_said a = erased_step (step_form a)

-- x := t, unless that is x := x
abbrev pub change_of : Name → Term → List flat.Assignment
change_of x t = if is_name x t then [] else record { variable = x; term = t } ∷ []

-- what an element gets in a step, folded
abbrev pub element_assigned : Protocol → TermScope → List Assignment → Element → Term
element_assigned m ρ assignments e =
    folded (data_of m) false (unfolded_assignment m ρ assignments e).term

-- and unless it keeps its value
abbrev pub changed : Protocol → TermScope → List Assignment → Element → List flat.Assignment
changed m ρ assignments e =
    folded_assignments (data_of m) (unfolded_assignment m ρ assignments e ∷ [])

abbrev pub changes : Protocol → TermScope → List Assignment → List Element → List flat.Assignment
changes m ρ assignments elements = flat_map (changed m ρ assignments) elements

-- a step with its values, folded
abbrev pub instance_step : Protocol → Instance → flat.Step
instance_step m i = folded_step (data_of m) (unfolded_step m i)

-- whether a step with its values may be taken
abbrev pub is_kept : Protocol → Instance → Bool
is_kept m i = is_possible (instance_step m i)

-- a step with its values, where it may be taken
abbrev pub kept_step : Protocol → Instance → List flat.Step
kept_step m i = filter is_possible (instance_step m i ∷ [])

-- what is there, if something is
abbrev pub step_found : Option declared_step.Step → List flat.Step
step_found None = []
step_found (Some a) = step_said a ∷ []

-- ---- places of steps

abbrev pub step_place : declared_step.Step → Place
step_place a = a.name.place

-- what is found of a step with its values: the step at the place, where it may be taken
pub record IsStepAt (m : Protocol) (i : Instance) (place : Place)
    (found : Option declared_step.Step) : Type 0 where
  pub step : step_found found ≡ kept_step m i
  pub at : IfSome found (λ a. step_place a ≡ place)

-- no token stands in column 0
abbrev pub place_of_step : ℕ → Place
place_of_step k = record { line = k; column = 0 }

-- the places of n steps from the k-th on
abbrev pub places_from : ℕ → ℕ → List Place
places_from k zero = []
places_from k (suc n) = place_of_step k ∷ places_from (suc k) n
