-- The steps of a model: whether they can be taken in a reached state, and what they are called.
use Rattle.std.specs.Prelude.{ℕ, List, []}
use Rattle.std.specs.List.{slice_get}
use Rattle.std.specs.Option.{option_map_or}
use Rattle.pb_model_tree.specs.Form.{ModelForm, PropertyForm, StepForm}
use Rattle.pb_model_typing.specs.Reached.{reached_form}
use Rattle.pb_model_words.specs.Vocabulary.{ToldStep, Vocabulary}

-- that a step can be taken in a reached state, as a property of the model by the step's name, which
-- stands at the place of `init`
abbrev pub reached_property : ModelForm → StepForm → PropertyForm
reached_property model a = record {
  name = record { place = model.initial.place; text = a.name.text };
  formula = reached_form model.initial.place a.name.text;
}

-- the name of the step at a place; nothing where there is none
abbrev pub name_among : List ToldStep → ℕ → List ℕ
name_among steps place =
    option_map_or (λ (a : ToldStep). a.name.text) (slice_get steps place) []

-- what the step at a place is called in these words
abbrev pub name_of_step : Vocabulary → ℕ → List ℕ
name_of_step words = name_among words.steps
