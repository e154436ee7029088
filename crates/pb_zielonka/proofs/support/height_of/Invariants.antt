use Rattle.std.proofs.Common.{ℕ, ◌<◌, ◌≤◌, get_or}
use Rattle.pb_zielonka.specs.declared.scopes.TheConstants.{MAX_HEIGHT}
use Rattle.pb_zielonka.specs.Regions.{IsIn}
use Rattle.pb_zielonka.specs.Kept.{IsHeightOn}
use Rattle.pb_zielonka.proofs.support.height_of.Given as goal

abbrev pub invariant-loop-v : goal.invariant-loop-v
invariant-loop-v l = record {
  small : l.height ≤ MAX_HEIGHT;
  greatest : (j : ℕ) → j < l.v-index → IsIn l.kept (get_or l.standing.list.now j 0) → IsHeightOn l.standing (get_or l.standing.list.now j 0) l.height;
}
