use Rattle.pb_protocol_symmetry.proofs.Satisfied.{permutations-undone}
use Rattle.pb_protocol_symmetry.proofs.permutations_are_undone.Goals as goal

pub returns : goal.returns
returns c = permutations-undone
