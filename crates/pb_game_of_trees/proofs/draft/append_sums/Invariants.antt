use Rattle.std.proofs.Common.{◌≡◌, ◌+◌, ◌-◌, ◌≤◌, ◌++◌, take, drop, map}
use Rattle.pb_game_of_trees.proofs.draft.append_sums.Given as goal

abbrev pub invariant-loop-k : goal.invariant-loop-k
invariant-loop-k l = record {
  begun : 1 ≤ l.k;
  appended : l.sums.items ≡ l.fn.sums.items ++ map (λ n. l.behind + n) (take (l.k - 1) (drop 1 l.others));
}
