use Rattle.pb_protocol_laws.proofs.FewValues.{groups-few}
use Rattle.pb_protocol_laws.proofs.spelling.packed_groups_have_few_values.Goals as goal

pub returns : goal.returns
returns c = groups-few
