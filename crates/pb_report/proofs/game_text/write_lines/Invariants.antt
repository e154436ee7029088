use Rattle.std.proofs.Common.{◌-◌}
use Rattle.pb_game.specs.Games.{vertex_count}
use Rattle.pb_report.specs.VertexNames.{name_in, lines_of, lines_text, IsAtRow}
use Rattle.pb_report.proofs.Underway.{IsUnderway}
use Rattle.pb_report.proofs.game_text.write_lines.Given as goal

abbrev pub invariant-loop-vertex : goal.invariant-loop-vertex
invariant-loop-vertex g l = record {
  sent : IsUnderway g.S.Sink l.fn.writer l.writer
      (lines_text l.placed.verified.now l.placed.game.now l.placed.vertices.now l.placed.rows.now)
      (lines_of (name_in l.placed.verified.now l.placed.vertices.now l.placed.rows.now) l.placed.game.now l.vertex (vertex_count l.placed.game.now - l.vertex));
  place : IsAtRow l.placed.vertices.now l.k l.vertex;
}
