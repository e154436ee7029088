use Rattle.pb_protocol_symmetry_packed.proofs.Isomorphic.{isomorphic}
use Rattle.pb_protocol_symmetry_packed.proofs.packed_models_are_isomorphic.Goals as goal

pub returns : goal.returns
returns c = isomorphic
