use Rattle.pb_fixpoint_symmetry.proofs.Renamed.{closed}
use Rattle.pb_fixpoint_symmetry.proofs.renamed_systems_are_closed.Goals as goal

pub returns : goal.returns
returns g c = λ known named numbered back names E D same. closed _ _ known named numbered back names E D same
