use Rattle.pb_protocol_unfolding.proofs.FlatModels.{positive_calls_are_kept}
use Rattle.pb_protocol_unfolding.proofs.PositiveCalls.{unfolded_calls_are_positive}
use Rattle.pb_protocol_unfolding.proofs.positive_calls_are_kept.Goals as goal

pub returns : goal.returns
returns c = record { unfolded = unfolded_calls_are_positive; flat = positive_calls_are_kept }
