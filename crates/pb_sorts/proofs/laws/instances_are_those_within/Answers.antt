use Rattle.pb_sorts.proofs.Numbers.{contains-is_instance, is_instance-contains}
use Rattle.pb_sorts.proofs.laws.instances_are_those_within.Goals as goal

pub returns : goal.returns
returns c = λ equations i. (contains-is_instance equations i, is_instance-contains equations i)
