use Rattle.std.specs.Prelude.{Contains}
use Rattle.pb_model_tree.specs.Form.{ModelForm, PropertyForm}
use Rattle.pb_model_properties.specs.Said.{IsModelOf}
use Rattle.pb_command_models.specs.Why.{CallsAreSteps}
use Rattle.pb_command_models.proofs.Moves.{calls_are_moves}
use Rattle.pb_command_models.proofs.States.{states_are_told}
use Rattle.pb_command_models.proofs.laws.told_calls_are_steps.Goals as goal

pub returns : goal.returns
returns c bytes =
    let steps : (model : ModelForm) (p : PropertyForm) → IsModelOf bytes model → Contains model.properties p → CallsAreSteps model p =
    λ model p said among i call state made.
    c.calls_are_moves.ensures.exactly model p.name.place p.formula i call
    (c.names_are_apart.ensures model said.is_for.typed.rules) (said.is_for.apart p among) state made in
    record {
      steps = steps;
      moves = λ model p said among. calls_are_moves c.runs_go_to_successors.ensures.successors c.moves_are_the_protocols.ensures bytes model said p (steps model p said among);
      states = λ model said. states_are_told c.states_say_their_values.ensures bytes model said;
    }
