use Rattle.std.proofs.Common.{length}
use Rattle.pb_assembler_measures.proofs.argument.+any_tested.Given as goal

abbrev pub decreases-any_tested : goal.decreases-any_tested
decreases-any_tested l = length l.carriers.now
