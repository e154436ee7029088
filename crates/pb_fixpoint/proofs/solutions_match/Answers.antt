use Rattle.pb_fixpoint.proofs.Transfer.{solution-matches}
use Rattle.pb_fixpoint.proofs.solutions_match.Goals as goal

pub returns : goal.returns
returns g c = λ known named E D t u same tu. solution-matches _ _ known named E D same t u tu
