use Rattle.pb_model_spelling.proofs.Words.{primed_word}
use Rattle.pb_model_spelling.proofs.primed_names_are_words.Goals as goal

pub returns : goal.returns
returns c = primed_word
