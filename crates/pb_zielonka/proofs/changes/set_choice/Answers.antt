use Rattle.std.proofs.Common.{arith}
use Rattle.std.proofs.lemmas.Grind.{common_steps}
use Rattle.pb_game.specs.Solutions.{winner_of, choice_of, count_of}
use Rattle.pb_zielonka.proofs.changes.set_choice.Goals as goal

pub returns : goal.returns
unfolding winner_of choice_of count_of
returns c = grind (arith, common_steps)
