use Rattle.pb_lifting.proofs.Keeping.{unknown_is_zero}
use Rattle.pb_lifting.proofs.laws.unknown_words_are_zero.Goals as goal

pub returns : goal.returns
returns c = unknown_is_zero
