-- A level's greatest priority is below its limit, and is the limit of the parts that it solves.
use Rattle.std.proofs.Common.{◌+◌, ◌*◌}
use Rattle.pb_search.proofs.recursion.+levels.Given as goal

abbrev pub decreases-solve : goal.decreases-solve
decreases-solve g l = 2 * l.part.limit

abbrev pub decreases-solve_parts : goal.decreases-solve_parts
decreases-solve_parts g l = 2 * l.part.limit + 1
