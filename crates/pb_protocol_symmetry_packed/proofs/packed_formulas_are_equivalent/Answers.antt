use Rattle.pb_protocol_symmetry_packed.proofs.Isomorphic.{equivalent}
use Rattle.pb_protocol_symmetry_packed.proofs.packed_formulas_are_equivalent.Goals as goal

pub returns : goal.returns
returns c = equivalent
