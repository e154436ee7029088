use Rattle.std.proofs.Common.{length, ap, ◌∙◌}
use Rattle.std.specs.Prelude.{slice_get}
use Rattle.pb_lifting.proofs.Seating.{get_last}
use Rattle.test_games.proofs.lifting.tests.words_after.Goals as goal

pub loop-pass-init : goal.loop-pass-init
loop-pass-init g c =
    let items = c.in-Some.ensures.items in let front = c.pop.new.self.items in
    c.in-Ok.ensures.laid.of_table (length front) c.in-Some.seat (ap (λ l. slice_get l (length front)) items ∙ get_last front c.in-Some.seat)
