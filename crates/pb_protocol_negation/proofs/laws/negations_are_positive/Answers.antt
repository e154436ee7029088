use Rattle.pb_protocol_negation.proofs.NeverBoth.{negations_are_positive}
use Rattle.pb_protocol_negation.proofs.laws.negations_are_positive.Goals as goal

pub returns : goal.returns
returns c = negations_are_positive
