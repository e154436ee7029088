use Rattle.pb_model_text.proofs.ParseLemmas.{at_most_one}
use Rattle.pb_model_text.proofs.laws.readings_are_unique.Goals as goal

pub returns : goal.returns
returns c = at_most_one
