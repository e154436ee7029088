use Rattle.pb_protocol_unfolding.proofs.Reading.{definitions_are_put_in}
use Rattle.pb_protocol_unfolding.proofs.definitions_are_put_in.Goals as goal

pub returns : goal.returns
returns c = definitions_are_put_in
