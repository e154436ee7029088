use Rattle.std.proofs.Common.{◌≤◌, List, [], length, slice_range}
use Rattle.pb_fixpoint_trees.specs.Rows.{Row}
use Rattle.pb_fixpoint_trees.specs.Game.{row_vertices}
use Rattle.pb_game_of_trees.specs.Held.{Hold}
use Rattle.pb_game_of_trees.specs.Builder.{IsAt}
use Rattle.pb_game_of_trees.specs.Levels.{priority_in}
use Rattle.pb_game_of_trees.specs.Places.{IsBehind}
use Rattle.pb_game_of_trees.specs.Numbering.{numbered_vertex}
use Rattle.pb_game_of_trees.proofs.row_range.RowRange.draft.Given as goal

abbrev pub decreases-loop-k : goal.decreases-loop-k
decreases-loop-k l = l.k

abbrev pub invariant-loop-k : goal.invariant-loop-k
invariant-loop-k l = record {
  from : l.self.from ≤ l.k;
  to : l.k ≤ l.self.to;
  level : l.level ≤ length l.self.levels.now.items.items;
  place : IsBehind l.self.rows.now l.k l.builder.next;
  behind : (plain : List Row) → Hold l.self.rows.now plain →
      IsAt (numbered_vertex l.self.numbering.now) l.builder []
      (row_vertices (numbered_vertex l.self.numbering.now) (priority_in l.self.levels.now.items.items) (slice_range plain l.k l.self.to) l.builder.next) l.builder.next;
}
