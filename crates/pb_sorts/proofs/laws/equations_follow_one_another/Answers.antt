use Rattle.pb_sorts.proofs.Numbers.{first_of-next, first_of-last}
use Rattle.pb_sorts.proofs.laws.equations_follow_one_another.Goals as goal

pub returns-clause-next : goal.returns-clause-next
returns-clause-next c = first_of-next

pub returns-clause-last : goal.returns-clause-last
returns-clause-last c = first_of-last
