use Rattle.pb_game.specs.Games.{predecessors_of}
use Rattle.pb_zielonka.proofs.Dropping.{IsClearedUpTo}
use Rattle.pb_zielonka.proofs.support.drop_predecessors.Given as goal

abbrev pub invariant-loop-v : goal.invariant-loop-v
invariant-loop-v l = IsClearedUpTo l.standing l.initial.kept l.kept l.initial.dropped.items l.dropped.items (predecessors_of l.standing.game.now l.u) l.u l.v-index
