use Rattle.pb_sorts.proofs.Numbers.{number_of-slice_get, number_is_unique}
use Rattle.pb_sorts.proofs.laws.number_is_mixed_radix.Goals as goal

pub returns-clause-formula : goal.returns-clause-formula
returns-clause-formula c = number_of-slice_get

pub returns-clause-unique : goal.returns-clause-unique
returns-clause-unique c = number_is_unique
