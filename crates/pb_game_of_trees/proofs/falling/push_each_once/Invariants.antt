use Rattle.std.proofs.Common.{◌≡◌, ◌++◌, ◌<◌, ◌-◌, reverse, take, get_or}
use Rattle.pb_fixpoint_trees.specs.Game.{rising}
use Rattle.pb_game_of_trees.proofs.Rising.{Leads}
use Rattle.pb_game_of_trees.proofs.falling.push_each_once.Given as goal

abbrev pub invariant-loop-k : goal.invariant-loop-k
invariant-loop-k l = record {
  pushed : l.list.items ≡ l.fn.list.items ++ reverse (rising (reverse (take l.k l.numbers)));
  last : 0 < l.k → Leads (get_or l.numbers (l.k - 1) 0) (rising (reverse (take l.k l.numbers)));
}
