use Rattle.std.proofs.Common.{◌+◌, ◌*◌}
use Rattle.pb_game_of_trees.proofs.row_range.+parts.Given as goal

abbrev pub decreases-RowRange::draft_by : goal.decreases-RowRange::draft_by
decreases-RowRange::draft_by g l = 2 * l.workers

abbrev pub decreases-front : goal.decreases-front
decreases-front g l = 2 * l.others + 1

abbrev pub decreases-back : goal.decreases-back
decreases-back g l = 2 * l.rest + 1
