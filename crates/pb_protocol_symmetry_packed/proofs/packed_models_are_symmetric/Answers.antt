use Rattle.pb_protocol_symmetry_packed.proofs.Isomorphic.{isomorphic, equivalent}
use Rattle.pb_protocol_symmetry_packed.proofs.Packed.{symmetric, properties-symmetric}
use Rattle.pb_protocol_symmetry_packed.proofs.packed_models_are_symmetric.Goals as goal

pub returns : goal.returns
returns c = record {
  models = symmetric isomorphic equivalent;
  properties = properties-symmetric (symmetric isomorphic equivalent);
}
