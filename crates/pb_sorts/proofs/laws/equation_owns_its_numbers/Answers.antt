use Rattle.pb_sorts.proofs.Numbers.{owns_number-owns_instance}
use Rattle.pb_sorts.proofs.laws.equation_owns_its_numbers.Goals as goal

pub returns : goal.returns
returns c = owns_number-owns_instance
