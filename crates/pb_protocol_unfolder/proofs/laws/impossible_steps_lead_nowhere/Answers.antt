use Rattle.pb_protocol_unfolder.proofs.ImpossibleLaw.{impossible_steps_lead_nowhere}
use Rattle.pb_protocol_unfolder.proofs.laws.impossible_steps_lead_nowhere.Goals as goal

pub returns : goal.returns
returns c = impossible_steps_lead_nowhere
