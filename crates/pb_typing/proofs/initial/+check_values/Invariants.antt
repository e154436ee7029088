use Rattle.std.proofs.Common.{length}
use Rattle.pb_typing.proofs.initial.+check_values.Given as goal

abbrev pub decreases-check_values : goal.decreases-check_values
decreases-check_values l = length l.arguments.now
