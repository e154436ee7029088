use Rattle.std.proofs.Common.{refl}
use Rattle.pb_text_meaning.specs.Functions.{named_function}
use Rattle.pb_protocol_negation.proofs.laws.worked_examples.Goals as goal

pub returns : goal.returns
unfolding named_function
returns c = record { negation = refl; holds = refl; fails = refl; neither_holds = refl; nor_fails = refl }
