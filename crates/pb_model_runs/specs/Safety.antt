-- The lines of a violated safety property refute it, in words of the model alone.
use Rattle.std.specs.Prelude.{◌≡◌, false, List}
use Rattle.pb_fixpoint.specs.declared.Sign.TheVariants.{Nu}
use Rattle.pb_text_tree.specs.declared.place.Place.{Place}
use Rattle.pb_text_tree.specs.declared.operator.Connective.TheVariants.{And}
use Rattle.pb_text_tree.specs.Form.{Named, TermForm}
use Rattle.pb_text_meaning.specs.Erase.{erased_term}
use Rattle.pb_sorts.specs.Instance.{Instance}
use Rattle.pb_model_tree.specs.declared.formula.Modality.TheVariants.{Box}
use Rattle.pb_model_tree.specs.Form.{StepSetForm, FormulaForm, ModelForm}
use Rattle.pb_model_meaning.specs.Syntax as model
use Rattle.pb_model_meaning.specs.Erase.{erase, erased_formula}
use Rattle.pb_model_meaning.specs.Satisfaction.{no_sets, satisfying}
use Rattle.pb_model_translation.specs.Apart.{HasNamesApart}
use Rattle.pb_model_translation.specs.Placed.{placed}
use Rattle.pb_typing_calls.specs.MadeCalls.{MadeCall}
use Rattle.pb_model_runs.specs.Shown.{AreMade, AreStates, last_values}

-- nu X . d && [A] X, at places
pub record Safety : Type 0 where
  pub at : Place
  pub variable : Named
  pub connective : Place
  pub data_at : Place
  pub term : TermForm
  pub bracket : Place
  pub steps : StepSetForm
  pub called : Place

abbrev pub safety_form : Safety → FormulaForm
safety_form f =
    FormulaForm.fixpoint Nu f.at f.variable
    (FormulaForm.connected And f.connective (FormulaForm.«data» f.data_at f.term)
    (FormulaForm.modal Box f.bracket f.steps
    (FormulaForm.variable (record { place = f.called; text = f.variable.text }))))

-- lines that end where the data is false show that the formula is false where they begin
abbrev pub LinesRefute : Type 0
LinesRefute =
    (m : ModelForm) (here : Place) (f : Safety) (i : Instance) (calls : List MadeCall) →
    HasNamesApart (erase m) → AreStates m i calls →
    AreMade (placed m here (safety_form f)) i calls →
    satisfying (erase m) no_sets (model.Formula.Data (erased_term f.term)) (last_values i calls)
    ≡ false →
    satisfying (erase m) no_sets (erased_formula (safety_form f)) i.values ≡ false
