use Rattle.std.proofs.Common.{ℕ, ◌-◌, ◌++◌, ap}
use Rattle.pb_report.specs.VertexNames.{first_line, lines_text}
use Rattle.pb_report.proofs.Sending.{sends_then, sends_err, sends_as}
use Rattle.pb_report.proofs.game_text.write_game.Goals as goal

pub returns-in_err-write_first_line : goal.returns-in_err-write_first_line
returns-in_err-write_first_line g c =
    let text = lines_text c.args.placed.now.verified.now c.args.placed.now.game.now c.args.placed.now.vertices.now c.args.placed.now.rows.now in
    sends_as (ap (λ (n : ℕ). first_line (n - 1) ++ text) c.len.ensures.value) (sends_err _ c.from_residual.ensures.0 c.in_err-write_first_line.ensures)

pub returns : goal.returns
returns g c =
    let text = lines_text c.args.placed.now.verified.now c.args.placed.now.game.now c.args.placed.now.vertices.now c.args.placed.now.rows.now in
    sends_as (ap (λ (n : ℕ). first_line (n - 1) ++ text) c.len.ensures.value) (sends_then c.in_ok-write_first_line.ensures c.write_lines.ensures)
