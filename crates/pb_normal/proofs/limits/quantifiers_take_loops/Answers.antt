use Rattle.pb_normal.proofs.LoopSlots.{equation-quantifiers}
use Rattle.pb_normal.proofs.limits.quantifiers_take_loops.Goals as goal

pub returns : goal.returns
returns c = equation-quantifiers
