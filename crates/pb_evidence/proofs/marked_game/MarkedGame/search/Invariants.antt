use Rattle.std.proofs.Common.{◌-◌}
use Rattle.pb_game.specs.Games.{vertex_count}
use Rattle.pb_evidence.proofs.Searching.{IsSearching}
use Rattle.pb_evidence.proofs.marked_game.MarkedGame.search.Given as goal

abbrev pub invariant-loop-next : goal.invariant-loop-next
invariant-loop-next l = IsSearching l.self.checked.now.game.now l.self.checked.now.solution.now l.self.marks.now l.v l.next l.found

abbrev pub decreases-loop-next : goal.decreases-loop-next
decreases-loop-next l = vertex_count l.self.checked.now.game.now - l.next
