use Rattle.pb_model_run_laws.proofs.Walk.{operands_have_no_word}
use Rattle.pb_model_run_laws.proofs.words.operands_are_free_of_words.Goals as goal

pub returns : goal.returns
returns c = operands_have_no_word
