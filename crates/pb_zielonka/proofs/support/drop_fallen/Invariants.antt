use Rattle.pb_zielonka.proofs.Dropping.{IsSiftedUpTo}
use Rattle.pb_zielonka.proofs.support.drop_fallen.Given as goal

abbrev pub invariant-loop-v : goal.invariant-loop-v
invariant-loop-v l = IsSiftedUpTo l.standing l.initial.kept l.kept l.dropped.items l.standing.list.now l.v-index
