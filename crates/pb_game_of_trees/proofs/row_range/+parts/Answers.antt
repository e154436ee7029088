use Rattle.pb_game_of_trees.proofs.RowRanges.{parts_hold}
use Rattle.pb_game_of_trees.proofs.row_range.+parts.Goals as goal

pub returns : goal.returns
returns g t c =
    parts_hold c.args.self c.split_at.result.0 c.split_at.result.1 _ c.split_at.ensures.low c.split_at.ensures.high
    c.join-first.result.0 c.join-first.result.1 c.join-first.ensures.first c.join-first.ensures.second c.joined.result c.joined.ensures
