use Rattle.pb_base_values.proofs.Sound.{unary_sound, binary_sound, hull_sound, cut_sound}
use Rattle.pb_base_values.proofs.laws.operations_are_sound.Goals as goal

pub returns : goal.returns
returns c = record { unary = unary_sound; binary = binary_sound; hull = hull_sound; cut = cut_sound }
