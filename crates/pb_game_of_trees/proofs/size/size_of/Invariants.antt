use Rattle.std.proofs.Common.{◌≡◌, ◌≤◌, List, drop}
use Rattle.pb_fixpoint_trees.specs.Rows.{Row}
use Rattle.pb_game_of_trees.specs.Held.{Hold}
use Rattle.pb_game_of_trees.specs.Places.{vertex_behind}
use Rattle.pb_game_of_trees.proofs.size.size_of.Given as goal

abbrev pub invariant-loop-k : goal.invariant-loop-k
invariant-loop-k l = record {
  small : l.vertices ≤ l.limit;
  counted : (plain : List Row) → Hold l.rows plain → vertex_behind (drop l.k plain) l.vertices ≡ vertex_behind plain 2;
}
