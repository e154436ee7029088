use Rattle.pb_protocol_laws.proofs.Fixpoints.{fixpoints_are_extreme}
use Rattle.pb_protocol_laws.proofs.Positive.{properties_are_positive}
use Rattle.pb_protocol_laws.proofs.fixpoints_are_extreme.Goals as goal

pub returns : goal.returns
returns c = record { extreme = fixpoints_are_extreme; positive = properties_are_positive }
