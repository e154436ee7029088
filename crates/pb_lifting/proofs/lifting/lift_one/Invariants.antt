use Rattle.pb_lifting.specs.Seats.{origin_at}
use Rattle.pb_lifting.specs.Turns.{AreInTurn}
use Rattle.pb_lifting.proofs.lifting.lift_one.Given as goal

abbrev pub invariant-loop-turn : goal.invariant-loop-turn
invariant-loop-turn g l = AreInTurn l.lifting.game.now l.tables

abbrev pub ghosts-work_together : goal.ghosts-work_together
ghosts-work_together g a = record { origin = origin_at a.ranks.now }
