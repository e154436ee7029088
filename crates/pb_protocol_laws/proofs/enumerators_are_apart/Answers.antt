use Rattle.pb_protocol_laws.proofs.EnumeratorNames.{enumerators_are_apart}
use Rattle.pb_protocol_laws.proofs.enumerators_are_apart.Goals as goal

pub returns : goal.returns
returns c = enumerators_are_apart
