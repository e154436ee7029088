-- What has to be known of what is shown before it is told.
use Rattle.std.specs.Prelude.{◌≡◌}
use Rattle.pb_text_tree.specs.declared.place.Place.{Place}
use Rattle.pb_text_tree.specs.Form.{SpecForm, spec_form}
use Rattle.pb_text_meaning.specs.Erase.{erase}
use Rattle.pb_bytecode.specs.Contents.{Contents}
use Rattle.pb_assembler_modules.specs.Module.{IsCompiledModule}
use Rattle.pb_model_tree.specs.Form.{FormulaForm, ModelForm, model_form}
use Rattle.pb_model_translation.specs.Placed.{placed}
use Rattle.pb_game_of_trees.specs.Explored.{ModuleHasTrees}
use Rattle.pb_report.specs.declared.module_evidence.Explanation.{Explanation}
use Rattle.pb_report.specs.ModuleEvidence.{IsExplanation}
use Rattle.pb_evidence_words.specs.declared.shown.Shown.{Shown}

-- the text is that of a formula of the model
abbrev pub IsOfFormula : ModelForm → SpecForm → Type 0
IsOfFormula model text = (here : Place) × (f : FormulaForm) × (text ≡ placed model here f)

-- What is told of the module of a text: its instances have trees, and this explains it. The text is
-- that of a formula of the model, as is the one in which every step is called.
pub record IsTellable (model : ModelForm) (text all_steps : SpecForm) (m : Contents)
    (x : Explanation) : Type 0 where
  pub compiled : IsCompiledModule (erase text) m
  pub trees : ModuleHasTrees m
  pub explanation : IsExplanation m x
  pub property : IsOfFormula model text
  pub steps : IsOfFormula model all_steps

-- what is shown can be told
abbrev pub IsTellableShown : Shown → Type 0
IsTellableShown shown =
    IsTellable (model_form shown.model.now) (spec_form shown.typed.now.spec)
    (spec_form shown.steps.now.spec) shown.verified.now shown.explanation.now
