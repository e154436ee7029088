use Rattle.pb_protocol_negation.proofs.NeverBoth.{never_both}
use Rattle.pb_protocol_negation.proofs.laws.never_both.Goals as goal

pub returns : goal.returns
returns c = never_both
