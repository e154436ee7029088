use Rattle.pb_protocol_groups.proofs.Values.{length-enumerators}
use Rattle.pb_protocol_groups.proofs.end.struct_size.Goals as goal

pub returns : goal.returns
returns c = length-enumerators c.args.enumerators.now
