use Rattle.std.proofs.Common.{take}
use Rattle.pb_zielonka.specs.Regions.{IsSelection}
use Rattle.pb_zielonka.specs.Kept.{IsTargetOn}
use Rattle.pb_zielonka.proofs.support.list_target.Given as goal

abbrev pub invariant-loop-v : goal.invariant-loop-v
invariant-loop-v l = IsSelection (λ v. IsTargetOn l.standing l.kept v) l.target.items (take l.v-index l.standing.list.now)
