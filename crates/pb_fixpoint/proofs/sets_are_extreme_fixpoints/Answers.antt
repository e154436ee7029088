use Rattle.pb_fixpoint.proofs.Solved.{value_of-solved}
use Rattle.pb_fixpoint.proofs.sets_are_extreme_fixpoints.Goals as goal

pub returns : goal.returns
returns g c = λ X E t all m me a. value_of-solved X E m me t all a
