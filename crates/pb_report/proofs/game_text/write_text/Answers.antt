use Rattle.std.proofs.Common.{refl, rules}
use Rattle.pb_report.proofs.Buffered.{part_written, end_unwritten, all_written}
use Rattle.pb_report.proofs.game_text.write_text.Goals as goal

pub returns-in_err-write_game : goal.returns-in_err-write_game
returns-in_err-write_game g c =
    part_written _ refl _ _ c.in_err-write_game.ensures c.in_ok-buffer.ensures c.from_residual-in_err-write_game.ensures.1 refl (search rules)

pub returns-in_err-finish : goal.returns-in_err-finish
returns-in_err-finish g c =
    end_unwritten _ refl _ _ c.in_ok-write_game.ensures c.in_ok-buffer.ensures c.in_err-finish.ensures.written c.from_residual-in_err-finish.ensures.1 refl (search rules)

pub returns : goal.returns
returns g c = all_written _ refl c.in_ok-write_game.ensures c.in_ok-buffer.ensures c.in_ok-finish.ensures.written (search rules)
