-- Quotient and remainder of whole numbers (Euclidean division by a divisor of at least 1).
use Rattle.std.specs.Prelude.{zero, suc, ◌-◌, ◌/◌, ◌%◌, pos, negsuc}
use Rattle.pb_base_values.specs.Carrier.{Value}

-- The quotient q and the remainder r of a = q * b + r with 0 <= r < b, and 0 where b is below 1.
abbrev pub quotient : Value → Value → Value
quotient (pos a) (pos (suc b)) = pos (a / suc b)
quotient (negsuc a) (pos (suc b)) = negsuc (a / suc b)
quotient a (pos zero) = pos 0
quotient a (negsuc b) = pos 0

abbrev pub remainder : Value → Value → Value
remainder (pos a) (pos (suc b)) = pos (a % suc b)
remainder (negsuc a) (pos (suc b)) = pos (b - a % suc b)
remainder a (pos zero) = pos 0
remainder a (negsuc b) = pos 0
