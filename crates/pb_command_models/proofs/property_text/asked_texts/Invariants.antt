use Rattle.std.proofs.Common.{◌≡◌, ◌++◌, drop, map}
use Rattle.std.specs.List.{All}
use Rattle.pb_model_tree.specs.Form.{model_form}
use Rattle.pb_command_models.specs.Outcomes.{IsTextAt}
use Rattle.pb_command_models.proofs.property_text.asked_texts.Given as goal

abbrev pub invariant-loop-place : goal.invariant-loop-place
invariant-loop-place l = record {
  places : map (λ asked. asked.place) l.texts.items ++ drop l.place-index l.places ≡ l.places;
  texts : All (IsTextAt (model_form l.solved.typed.model)) l.texts.items;
}
