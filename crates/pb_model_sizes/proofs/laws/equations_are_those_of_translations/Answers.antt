use Rattle.pb_model_sizes.proofs.Translated.{total-same}
use Rattle.pb_model_sizes.proofs.laws.equations_are_those_of_translations.Goals as goal

pub returns : goal.returns
returns c = total-same
