use Rattle.pb_protocol_laws.proofs.PlainModels.{state_variables_are_apart}
use Rattle.pb_protocol_laws.proofs.state_variables_are_apart.Goals as goal

pub returns : goal.returns
returns c = state_variables_are_apart
