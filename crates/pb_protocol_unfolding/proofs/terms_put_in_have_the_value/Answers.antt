use Rattle.pb_protocol_unfolding.proofs.PutIn.{terms_put_in}
use Rattle.pb_protocol_unfolding.proofs.terms_put_in_have_the_value.Goals as goal

pub returns : goal.returns
returns c = terms_put_in
