use Rattle.std.proofs.Common.{◌+◌, ◌*◌}
use Rattle.pb_strategy.proofs.range.+halves.Given as goal

abbrev pub decreases-Range::first_flaw_by : goal.decreases-Range::first_flaw_by
decreases-Range::first_flaw_by g l = 2 * l.workers

abbrev pub decreases-front : goal.decreases-front
decreases-front g l = 2 * l.others + 1

abbrev pub decreases-back : goal.decreases-back
decreases-back g l = 2 * l.rest + 1
