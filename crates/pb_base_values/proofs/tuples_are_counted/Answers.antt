use Rattle.pb_base_values.proofs.Tuples.{length-tuples}
use Rattle.pb_base_values.proofs.tuples_are_counted.Goals as goal

pub returns : goal.returns
returns c = λ carriers. length-tuples carriers
