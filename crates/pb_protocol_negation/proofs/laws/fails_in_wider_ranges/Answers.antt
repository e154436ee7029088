use Rattle.pb_protocol_negation.proofs.WiderRanges.{fails_in_wider_ranges}
use Rattle.pb_protocol_negation.proofs.laws.fails_in_wider_ranges.Goals as goal

pub returns : goal.returns
returns c = fails_in_wider_ranges c.plain_models_keep_their_meaning.ensures c.true_stays_true_in_wider_ranges.ensures
