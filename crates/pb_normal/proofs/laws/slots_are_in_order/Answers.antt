use Rattle.pb_normal.proofs.SlotLaws.{equation-slots, equation-closed}
use Rattle.pb_normal.proofs.laws.slots_are_in_order.Goals as goal

pub returns : goal.returns
returns c = record { order = equation-slots; closed = equation-closed }
