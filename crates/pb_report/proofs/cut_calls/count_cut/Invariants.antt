use Rattle.std.proofs.Common.{◌≡◌, ◌≤◌, ◌+◌, List, drop}
use Rattle.pb_fixpoint_trees.specs.Rows.{Row}
use Rattle.pb_game_of_trees.specs.Held.{Hold}
use Rattle.pb_report.specs.CutCalls.{cut_count}
use Rattle.pb_report.proofs.cut_calls.count_cut.Given as goal

abbrev pub invariant-loop-k : goal.invariant-loop-k
invariant-loop-k l = record {
  few : l.count ≤ l.k;
  counted : (reached : List Row) → Hold l.rows reached → l.count + cut_count (drop l.k reached) ≡ cut_count reached;
}
