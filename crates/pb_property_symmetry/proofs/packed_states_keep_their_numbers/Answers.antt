use Rattle.pb_property_symmetry.proofs.Packed.{packed-numbers}
use Rattle.pb_property_symmetry.proofs.packed_states_keep_their_numbers.Goals as goal

pub returns : goal.returns
returns c = packed-numbers
