use Rattle.pb_base_values.proofs.Apart.{tuples_apart}
use Rattle.pb_base_values.proofs.tuples_are_distinct.Goals as goal

pub returns : goal.returns
returns c = λ carriers distinct. tuples_apart carriers distinct
