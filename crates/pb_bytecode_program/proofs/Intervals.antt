-- The interval of an operation at narrower intervals is within the one at wider ones (Cousot and Cousot 1977).
use Rattle.std.proofs.Common.{◌≡◌, true, arith}
use Rattle.std.specs.Prelude.{ℤ, pos, ◌≤ℤ◌, int_le}
use Rattle.std.proofs.lemmas.Int.{ints}
use Rattle.std.proofs.lemmas.Bool.{and_parts, and_from}
use Rattle.pb_base_values.specs.Operation.{UnaryOperation}
use Rattle.pb_base_values.proofs.Sound.{unary_non_empty, binary_non_empty}
use Rattle.pb_base_values.proofs.Monotone.{unary_monotone, binary_monotone}
use Rattle.pb_bytecode_program.specs.Values.{operation_of, has_divisor, fits64, least64, greatest64}
use Rattle.pb_bytecode_program.specs.Abstract.{between, interval_of, absolute_interval}
use Rattle.pb_bytecode_program.proofs.Ints.{le_true, from_le}
use Rattle.pb_bytecode_program.specs.declared.instruction.Arithmetic.{Arithmetic}

-- a narrower interval, which isn't empty
abbrev pub Inside : ℤ → ℤ → ℤ → ℤ → Type 0
Inside l h m k = (m ≤ℤ l) × (l ≤ℤ h) × (h ≤ℤ k)

pub interval_less : (c : Arithmetic) (l h m k l' h' m' k' : ℤ) → Inside l h l' h' → Inside m k m' k'
    → (has_divisor c ≡ true → pos 1 ≤ℤ m')
    → Inside (interval_of c l h m k).0 (interval_of c l h m k).1 (interval_of c l' h' m' k').0 (interval_of c l' h' m' k').1
interval_less c l h m k l' h' m' k' p q d =
    let within = binary_monotone (between l h) (between m k) (between l' h') (between m' k') p.1 q.1 (p.0, p.2) (q.0, q.2) (operation_of c) d in
    let narrower = q.0 in
    (within.0, binary_non_empty (operation_of c) (between l h) (between m k) (λ e. let least = d e in omega (arith, ints)) p.1 q.1, within.1)

pub absolute_less : (l h l' h' : ℤ) → Inside l h l' h' → Inside (absolute_interval l h).0 (absolute_interval l h).1 (absolute_interval l' h').0 (absolute_interval l' h').1
absolute_less l h l' h' p =
    let within = unary_monotone UnaryOperation.AbsoluteValue (between l h) (between l' h') p.1 (p.0, p.2) in
    (within.0, unary_non_empty UnaryOperation.AbsoluteValue (between l h) p.1, within.1)

pub fits_less : (l h l' h' : ℤ) → Inside l h l' h' → fits64 l' h' ≡ true → fits64 l h ≡ true
fits_less l h l' h' p e =
    let two = and_parts (int_le least64 l') (int_le h' greatest64) e in
    let x = le_true least64 l' two.0 in
    let y = le_true h' greatest64 two.1 in
    let u = p.0 in
    let w = p.2 in
    and_from (int_le least64 l) (int_le h greatest64) (from_le least64 l (omega (arith, ints))) (from_le h greatest64 (omega (arith, ints)))
