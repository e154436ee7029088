use Rattle.std.proofs.Common.{◌≡◌, ◌≤◌, ◌++◌, List, drop}
use Rattle.pb_fixpoint_trees.specs.Rows.{Row}
use Rattle.pb_game_of_trees.specs.Held.{Hold}
use Rattle.pb_game_of_trees.specs.Places.{vertex_behind, vertices_from}
use Rattle.pb_game_of_trees.proofs.places.lay_rows.Given as goal

abbrev pub invariant-loop-k : goal.invariant-loop-k
invariant-loop-k l = record {
  small : l.next ≤ l.limit;
  counted : (plain : List Row) → Hold l.rows plain → vertex_behind (drop l.k plain) l.next ≡ vertex_behind plain 2;
  pushed : (plain : List Row) → Hold l.rows plain → l.vertices.items ++ vertices_from (drop l.k plain) l.next ≡ vertices_from plain 2;
}
