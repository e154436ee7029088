use Rattle.pb_lifting.specs.Seats.{origin_at}
use Rattle.pb_lifting.proofs.lifting.lift_rest.Given as goal

abbrev pub ghosts-work_together : goal.ghosts-work_together
ghosts-work_together g a = record { origin = origin_at a.ranks.now }
