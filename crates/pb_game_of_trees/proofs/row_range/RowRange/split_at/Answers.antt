use Rattle.std.proofs.Common.{◌<◌, length, arith}
use Rattle.pb_game_of_trees.proofs.RowRanges.{behind_at}
use Rattle.pb_game_of_trees.proofs.row_range.RowRange.split_at.Goals as goal

pub invariant_of-low : goal.invariant_of-low
invariant_of-low c =
    let r = c.args.self in
    let before = c.requires.to in
    let inside = r.inside in
    let within : c.args.middle < length r.rows.now = omega (arith, before, inside) in
    record {
      rising = c.requires.from;
      inside = omega (arith, within);
      sized = r.sized;
      placed = r.placed;
      behind = behind_at r.rows.now r.vertices.now c.args.middle 0 r.placed within;
    }
