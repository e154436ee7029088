use Rattle.std.proofs.Common.{◌≡◌, string_bytes, take}
use Rattle.pb_model_tree.specs.Form.{model_form}
use Rattle.pb_model_properties.specs.Said.{IsModelOf}
use Rattle.pb_model_properties.specs.Words.{words_in}
use Rattle.pb_command_models.specs.Why.{AreTold}
use Rattle.pb_command_models.proofs.why.all_told.Given as goal

abbrev pub invariant-loop-place : goal.invariant-loop-place
invariant-loop-place g l = record {
  same : l.asked_input ≡ l.fn.input.bytes.now;
  told : (said : IsModelOf l.fn.input.bytes.now (model_form l.solved.typed.model)) →
      AreTold l.options.lines (words_in l.solved) said.protocol (model_form l.solved.typed.model) (take l.place said.protocol.properties)
      (take l.place (model_form l.solved.typed.model).properties) (string_bytes l.lines);
}
