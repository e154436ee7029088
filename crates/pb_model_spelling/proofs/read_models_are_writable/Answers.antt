use Rattle.pb_model_spelling.proofs.Walk.{reading_words}
use Rattle.pb_model_spelling.proofs.read_models_are_writable.Goals as goal

pub returns : goal.returns
returns c = reading_words
