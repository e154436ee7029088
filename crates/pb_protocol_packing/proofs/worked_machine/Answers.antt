use Rattle.pb_protocol_packing.proofs.Machine.{machine-packable}
use Rattle.pb_protocol_packing.proofs.worked_machine.Goals as goal

pub returns : goal.returns
returns c = machine-packable
