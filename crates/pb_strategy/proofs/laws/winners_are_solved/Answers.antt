use Rattle.pb_strategy.proofs.Winners.{winners_are_solved}
use Rattle.pb_strategy.proofs.laws.winners_are_solved.Goals as goal

pub returns : goal.returns
returns c = winners_are_solved
