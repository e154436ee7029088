use Rattle.pb_lifting.specs.Seats.{IsSeatOf}
use Rattle.test_games.proofs.lifting.tests.words_after.Given as goal

abbrev pub invariant-loop-v : goal.invariant-loop-v
invariant-loop-v g l = IsSeatOf l.ranks l.seat

abbrev pub invariant-loop-pass : goal.invariant-loop-pass
invariant-loop-pass g l = IsSeatOf l.ranks l.seat
