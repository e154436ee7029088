use Rattle.pb_base_values.proofs.Tuples.{within_is_among, among_is_within}
use Rattle.pb_base_values.proofs.tuples_are_those_within.Goals as goal

pub returns : goal.returns
returns c = λ carriers values. (within_is_among carriers values, among_is_within carriers values)
