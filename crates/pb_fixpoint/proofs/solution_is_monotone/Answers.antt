use Rattle.pb_fixpoint.proofs.Solved.{solution-within}
use Rattle.pb_fixpoint.proofs.solution_is_monotone.Goals as goal

pub returns : goal.returns
returns g c = λ E s t me st. solution-within E me s t st
