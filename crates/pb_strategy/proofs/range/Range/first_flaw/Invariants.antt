use Rattle.pb_strategy.specs.Ranges.{AreCertified}
use Rattle.pb_strategy.proofs.range.Range.first_flaw.Given as goal

abbrev pub invariant-loop-vertex : goal.invariant-loop-vertex
invariant-loop-vertex l = AreCertified l.self.game.now l.self.solution.now l.self.from l.vertex
