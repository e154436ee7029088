use Rattle.std.proofs.Common.{◌≤◌}
use Rattle.pb_game.specs.Games.{vertex_count}
use Rattle.pb_lifting.specs.Measures.{top_of}
use Rattle.pb_lifting.specs.Sweep.{slack, AreWords}
use Rattle.pb_lifting.proofs.sweep.sweep_down.Given as goal

abbrev pub invariant-loop-v : goal.invariant-loop-v
invariant-loop-v l = record {
  words : AreWords l.ranking.game.now l.ranking.player l.words.items;
  falls : slack (top_of l.ranking.game.now l.ranking.player) l.words.items ≤ slack (top_of l.ranking.game.now l.ranking.player) l.fn.words.items;
  within : l.v ≤ vertex_count l.ranking.game.now;
}

abbrev pub decreases-loop-v : goal.decreases-loop-v
decreases-loop-v l = l.v
