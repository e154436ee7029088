use Rattle.pb_model_words.proofs.SaidStates as said
use Rattle.pb_model_words.proofs.states_say_their_values.Goals as goal

pub returns : goal.returns
returns c = said.states_say_their_values
