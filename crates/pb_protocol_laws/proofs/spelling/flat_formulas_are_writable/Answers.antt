use Rattle.pb_protocol_laws.proofs.FlatModels.{flat-formula-writable}
use Rattle.pb_protocol_laws.proofs.spelling.flat_formulas_are_writable.Goals as goal

pub returns : goal.returns
returns c = flat-formula-writable
