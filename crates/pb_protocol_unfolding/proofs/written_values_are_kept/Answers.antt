use Rattle.pb_protocol_unfolding.proofs.WrittenLaws.{written_values_are_kept}
use Rattle.pb_protocol_unfolding.proofs.written_values_are_kept.Goals as goal

pub returns : goal.returns
returns c = written_values_are_kept
