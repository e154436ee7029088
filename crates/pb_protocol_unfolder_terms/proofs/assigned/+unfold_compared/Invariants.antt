use Rattle.std.proofs.Common.{length}
use Rattle.pb_protocol_unfolder_terms.proofs.assigned.+unfold_compared.Given as goal

abbrev pub decreases-unfold_compared : goal.decreases-unfold_compared
decreases-unfold_compared l = length l.compared.arguments.now
