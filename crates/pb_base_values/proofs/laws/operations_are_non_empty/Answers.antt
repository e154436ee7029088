use Rattle.pb_base_values.proofs.Sound.{unary_non_empty, binary_non_empty, hull_non_empty}
use Rattle.pb_base_values.proofs.laws.operations_are_non_empty.Goals as goal

pub returns : goal.returns
returns c = record { unary = unary_non_empty; binary = binary_non_empty; hull = hull_non_empty }
