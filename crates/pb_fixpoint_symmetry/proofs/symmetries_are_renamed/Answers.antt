use Rattle.pb_fixpoint_symmetry.proofs.Renamed.{renamed}
use Rattle.pb_fixpoint_symmetry.proofs.symmetries_are_renamed.Goals as goal

pub returns : goal.returns
returns g c = λ known named numbered back names E D same f stays s. renamed _ _ known named numbered back names f stays E D same s
