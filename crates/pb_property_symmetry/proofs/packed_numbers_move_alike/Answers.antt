use Rattle.pb_property_symmetry.proofs.Moved.{packed-moves}
use Rattle.pb_property_symmetry.proofs.packed_numbers_move_alike.Goals as goal

pub returns : goal.returns
returns c = packed-moves c.packed_models_are_isomorphic.ensures c.packed_states_keep_their_numbers.ensures
