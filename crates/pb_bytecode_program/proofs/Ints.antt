-- The interval of an operation contains its value.
use Rattle.std.proofs.Common.{◌≡◌, true, false, arith}
use Rattle.std.specs.Prelude.{ℤ, pos, neg_ℤ, ◌≤ℤ◌, int_lt}
use Rattle.std.proofs.lemmas.Int.{ints}
use Rattle.pb_base_values.specs.Operation.{UnaryOperation}
use Rattle.pb_base_values.proofs.Sound.{unary_sound, binary_sound}
use Rattle.pb_bytecode_program.specs.Values.{operation_of, arithmetic, has_divisor, absolute}
use Rattle.pb_bytecode_program.specs.Abstract.{between, interval_of, absolute_interval}
use Rattle.pb_bytecode_program.specs.declared.instruction.Arithmetic.{Arithmetic}
pub use Rattle.pb_base_values.proofs.Ends.{from_le, le_true, le_false}

pub not_below : (m : ℤ) → int_lt m (pos 1) ≡ false → pos 1 ≤ℤ m
not_below m e = grind (arith, ints)

pub from_below : (m : ℤ) → pos 1 ≤ℤ m → int_lt m (pos 1) ≡ false
from_below m e = grind (arith, ints)

-- ---- the rules

pub calc_within : (c : Arithmetic) (a b l h m k : ℤ) → l ≤ℤ a → a ≤ℤ h → m ≤ℤ b → b ≤ℤ k
    → (has_divisor c ≡ true → pos 1 ≤ℤ m) → ((interval_of c l h m k).0 ≤ℤ arithmetic c a b) × (arithmetic c a b ≤ℤ (interval_of c l h m k).1)
calc_within c a b l h m k p q r s d = binary_sound (operation_of c) (between l h) (between m k) a b d (p, q) (r, s)

pub negated_within : (a l h : ℤ) → l ≤ℤ a → a ≤ℤ h → (neg_ℤ h ≤ℤ neg_ℤ a) × (neg_ℤ a ≤ℤ neg_ℤ l)
negated_within a l h p q = unary_sound UnaryOperation.Negation (between l h) a (p, q)

pub absolute_within : (a l h : ℤ) → l ≤ℤ a → a ≤ℤ h → ((absolute_interval l h).0 ≤ℤ absolute a) × (absolute a ≤ℤ (absolute_interval l h).1)
absolute_within a l h p q = unary_sound UnaryOperation.AbsoluteValue (between l h) a (p, q)
