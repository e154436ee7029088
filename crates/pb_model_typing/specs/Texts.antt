-- Which models are well typed: their own rules hold, and so do those of the text in which each step
-- stands. The text of a property is checked where it is asked for.
use Rattle.std.specs.Prelude.{◌≡◌, [], codes, Contains, ◌⊎◌}
use Rattle.pb_fixpoint.specs.declared.Sign.TheVariants.{Nu}
use Rattle.pb_sorts.specs.Counting.{instance_limit}
use Rattle.pb_sorts.specs.declared.counting.Counting.TheVariants.{Reached}
use Rattle.pb_text_tree.specs.declared.place.Place.{Place}
use Rattle.pb_model_tree.specs.Form.{FormulaForm, PropertyForm, ModelForm}
use Rattle.pb_model_meaning.specs.Syntax.{StepSet, Formula, Model}
use Rattle.pb_model_meaning.specs.Erase.{erase}
use Rattle.pb_model_translation.specs.Names.{translation}
use Rattle.pb_model_translation.specs.Placed.{placed, every_step_form}
use Rattle.pb_typing_declarations.specs.declared.fault.TypingFault.{TypingFault}
use Rattle.pb_typing_rules.specs.Faults.{faults}
use Rattle.pb_typing_rules.specs.WellTyped.{IsWellTyped}
use Rattle.pb_model_typing.specs.Data.{fault_in_model}
use Rattle.pb_model_typing.specs.Faults.{model_faults}

-- nu X . [true] X, whose text has the guard and the assignments of each step
abbrev pub every_step : Formula
every_step =
    Formula.Fixpoint Nu (codes "X") (Formula.Box StepSet.All (Formula.Named (codes "X")))

-- the text of a formula is well typed
abbrev pub HasTypedText : Model → Formula → Type 0
HasTypedText m f = IsWellTyped (translation m f)

pub record IsTypedModel (model : ModelForm) : Type 0 where
  pub rules : model_faults model ≡ []
  pub steps : HasTypedText (erase model) every_step

-- ---- refusals

-- A formula whose text is checked, with the place at which the names of its equations stand: that
-- of `init` for the one of each step, and the name of a property for the property's.
abbrev pub placed_steps : ModelForm → Place × FormulaForm
placed_steps m = (m.initial.place, every_step_form m.initial.place)

abbrev pub placed_property : PropertyForm → Place × FormulaForm
placed_property p = (p.name.place, p.formula)

-- a fault of the text of a formula, at its place in the model, where those instances count that are
-- reached
abbrev pub IsTextFault : ModelForm → Place × FormulaForm → TypingFault → Type 0
IsTextFault m f fault = Contains (faults (instance_limit Reached) (placed m f.0 f.1)) fault

-- what such a fault is in the model, at the same place
abbrev pub IsFaultFromText : ModelForm → Place × FormulaForm → TypingFault → Type 0
IsFaultFromText model f fault =
    (found : TypingFault) × IsTextFault model f found × (fault ≡ fault_in_model model found)

-- of the model's own rules or of the text in which each step stands
abbrev pub IsModelFault : ModelForm → TypingFault → Type 0
IsModelFault model fault =
    Contains (model_faults model) fault ⊎ IsFaultFromText model (placed_steps model) fault
