use Rattle.pb_protocol_symmetry.proofs.Satisfied.{ranges-kept}
use Rattle.pb_protocol_symmetry.proofs.ranges_are_permuted.Goals as goal

pub returns : goal.returns
returns c = ranges-kept
