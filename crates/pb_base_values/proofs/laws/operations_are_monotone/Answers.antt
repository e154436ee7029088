use Rattle.pb_base_values.proofs.Monotone.{unary_monotone, binary_monotone, hull_monotone, cut_monotone, hull_least}
use Rattle.pb_base_values.proofs.laws.operations_are_monotone.Goals as goal

pub returns : goal.returns
returns c = record { unary = unary_monotone; binary = λ o i j k l d n m p q. binary_monotone i j k l n m p q o d; hull = hull_monotone; cut = cut_monotone; least = hull_least }
