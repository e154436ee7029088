use Rattle.std.proofs.Common.{◌≡◌, take}
use Rattle.pb_game.specs.Adjacency.{greatest_of}
use Rattle.pb_game.proofs.parts.Parts.greatest.Given as goal

abbrev pub invariant-loop-priority : goal.invariant-loop-priority
invariant-loop-priority l = l.greatest ≡ greatest_of (take l.priority-index l.self.priorities.items)
