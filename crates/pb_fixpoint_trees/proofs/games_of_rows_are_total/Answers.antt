use Rattle.pb_fixpoint_trees.proofs.Total.{game_is_total, rows_have_vertices}
use Rattle.pb_fixpoint_trees.proofs.games_of_rows_are_total.Goals as goal

pub returns : goal.returns
returns c = record { total = game_is_total; rows = rows_have_vertices }
