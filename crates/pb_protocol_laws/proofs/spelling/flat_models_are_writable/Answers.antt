use Rattle.pb_protocol_laws.proofs.FlatModels.{flat-writable}
use Rattle.pb_protocol_laws.proofs.spelling.flat_models_are_writable.Goals as goal

pub returns : goal.returns
returns c = flat-writable
