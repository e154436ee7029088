-- The quotient and the remainder are the ones of a = q * b + r with 0 <= r < b.
use Rattle.std.proofs.Common.{◌≡◌, ℕ, zero, suc, ◌<◌, ℤ, pos, negsuc, ◌+ℤ◌, ◌*ℤ◌, ◌≤ℤ◌, ◌<ℤ◌, arith}
use Rattle.std.proofs.lemmas.Int.{ints}
use Rattle.pb_base_values.specs.Division.{quotient, remainder}

pub within : (a : ℤ) (b : ℕ) → 0 < b → (pos 0 ≤ℤ remainder a (pos b)) × (remainder a (pos b) <ℤ pos b)
within (pos a) zero h = absurd (omega arith)
within (pos a) (suc b) h = (omega (arith, ints), omega (arith, ints))
within (negsuc a) zero h = absurd (omega arith)
within (negsuc a) (suc b) h = (omega (arith, ints), omega (arith, ints))

pub adds_up : (a : ℤ) (b : ℕ) → 0 < b → quotient a (pos b) *ℤ pos b +ℤ remainder a (pos b) ≡ a
adds_up (pos a) zero h = absurd (omega arith)
adds_up (pos a) (suc b) h = omega (arith, ints)
adds_up (negsuc a) zero h = absurd (omega arith)
adds_up (negsuc a) (suc b) h = omega (arith, ints)
