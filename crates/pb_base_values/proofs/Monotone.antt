-- Operands within larger ones give a result within the larger operands' result.
use Rattle.std.proofs.Common.{◌≡◌, ◌↔◌, Some, None, Bool, true, false, cond, refl, arith, ℤ, pos, neg_ℤ, ◌-ℤ◌, ◌≤ℤ◌, int_le}
use Rattle.std.specs.Int.{int_min, int_max}
use Rattle.std.proofs.lemmas.Int.{ints, clamps}
use Rattle.std.proofs.lemmas.Bool.{cond_both, and_parts, and_from}
use Rattle.pb_base_values.specs.Interval.{IntegerInterval, Includes, IsNonEmpty, IsWithin, cut, hull, is_non_empty, is_included, unless_empty, within}
use Rattle.pb_base_values.specs.Operation.{UnaryOperation, BinaryOperation, unary_interval, binary_interval, binary_value, span_of_four, absolute_values}
use Rattle.pb_base_values.specs.Laws.{IsDefined}
use Rattle.pb_base_values.proofs.Ends.{from_le, le_true, le_false}
use Rattle.pb_base_values.proofs.Sound.{unary_sound, binary_sound}

-- ---- the tests

pub non_empty_decides : (i : IntegerInterval) → ((is_non_empty i ≡ true) ↔ IsNonEmpty i)
non_empty_decides i = (le_true i.low i.high, from_le i.low i.high)

pub within_decides : (i outer : IntegerInterval) → ((is_included i outer ≡ true) ↔ IsWithin i outer)
within_decides i outer = (
  (λ e. let both = and_parts (int_le outer.low i.low) (int_le i.high outer.high) e in (le_true outer.low i.low both.0, le_true i.high outer.high both.1)),
  (λ p. and_from (int_le outer.low i.low) (int_le i.high outer.high) (from_le outer.low i.low p.0) (from_le i.high outer.high p.1)),
)

-- an interval is within another where the other has its values
pub within_by_values : (i outer : IntegerInterval) → IsNonEmpty i → (IsWithin i outer ↔ ((v : ℤ) → Includes i v → Includes outer v))
within_by_values i outer h = (
  (λ p v q. let x = p.0 in let y = p.1 in let z = q.0 in let w = q.1 in (omega (arith, ints), omega (arith, ints))),
  (λ f. let low = f i.low (omega (arith, ints), h) in let high = f i.high (h, omega (arith, ints)) in (low.0, high.1)),
)

some_if : (b : Bool) (i r : IntegerInterval) → ((cond b (Some i) None ≡ Some r) ↔ ((r ≡ i) × (b ≡ true)))
some_if true i r = ((λ e. (cc, refl)), (λ p. let e = p.0 in cc))
some_if false i r = ((λ e. cc), (λ p. let e = p.1 in cc))

pub within_exact : (limits i r : IntegerInterval) → ((within limits i ≡ Some r) ↔ ((r ≡ i) × IsWithin i limits))
within_exact limits i r =
    let some = some_if (is_included i limits) i r in
    let decides = within_decides i limits in
    ((λ e. let p = some.0 e in (p.0, decides.0 p.1)), (λ p. some.1 (p.0, decides.1 p.1)))

pub unless_empty_exact : (i r : IntegerInterval) → ((unless_empty i ≡ Some r) ↔ ((r ≡ i) × IsNonEmpty i))
unless_empty_exact i r =
    let some = some_if (is_non_empty i) i r in
    let decides = non_empty_decides i in
    ((λ e. let p = some.0 e in (p.0, decides.0 p.1)), (λ p. some.1 (p.0, decides.1 p.1)))

-- ---- operations on one number

four_within : (a b c d : ℤ) (outer : IntegerInterval) → Includes outer a → Includes outer b → Includes outer c → Includes outer d → IsWithin (span_of_four a b c d) outer
four_within a b c d outer p q r s = (
  (let x = p.0 in let y = q.0 in let z = r.0 in let w = s.0 in omega (arith, ints, clamps)),
  (let x = p.1 in let y = q.1 in let z = r.1 in let w = s.1 in omega (arith, ints, clamps)),
)

absolute_monotone : (i k : IntegerInterval) → IsNonEmpty i → IsWithin i k → IsWithin (absolute_values i) (absolute_values k)
absolute_monotone i k n p =
    let x = p.0 in
    let y = p.1 in
    let low = unary_sound UnaryOperation.AbsoluteValue k i.low (x, omega (arith, ints)) in
    let high = unary_sound UnaryOperation.AbsoluteValue k i.high (omega (arith, ints), y) in
    let low0 = low.0 in
    let low1 = low.1 in
    let high0 = high.0 in
    let high1 = high.1 in
    let P : IntegerInterval → Type 0 = λ r. IsWithin r (absolute_values k) in
    cond_both (int_le (pos 0) i.low) i _ P
    (λ e. let above = le_true (pos 0) i.low e in (omega (arith, ints), omega (arith, ints)))
    (λ e. cond_both (int_le i.high (pos 0)) (record { low = neg_ℤ i.high; high = neg_ℤ i.low }) (record { low = pos 0; high = int_max (neg_ℤ i.low) i.high }) P
    (λ f. let below = le_true i.high (pos 0) f in (omega (arith, ints), omega (arith, ints)))
    (λ f.
    let starts = le_false (pos 0) i.low e in
    let ends = le_false i.high (pos 0) f in
    let zero_included = unary_sound UnaryOperation.AbsoluteValue k (pos 0) (omega (arith, ints), omega (arith, ints)) in
    let zero0 = zero_included.0 in
    (omega (arith, ints), omega (arith, ints, clamps))))

pub unary_monotone : (o : UnaryOperation) (i k : IntegerInterval) → IsNonEmpty i → IsWithin i k → IsWithin (unary_interval o i) (unary_interval o k)
unary_monotone UnaryOperation.Negation i k n p = let x = p.0 in let y = p.1 in (omega (arith, ints), omega (arith, ints))
unary_monotone UnaryOperation.Successor i k n p = let x = p.0 in let y = p.1 in (omega (arith, ints), omega (arith, ints))
unary_monotone UnaryOperation.Predecessor i k n p = let x = p.0 in let y = p.1 in (omega (arith, ints), omega (arith, ints))
unary_monotone UnaryOperation.AbsoluteValue i k n p = absolute_monotone i k n p

-- ---- operations on two numbers

low_included : (i k : IntegerInterval) → IsNonEmpty i → IsWithin i k → Includes k i.low
low_included i k n p = let x = p.0 in let y = p.1 in (x, omega (arith, ints))

high_included : (i k : IntegerInterval) → IsNonEmpty i → IsWithin i k → Includes k i.high
high_included i k n p = let x = p.0 in let y = p.1 in (omega (arith, ints), y)

module _ (i j k l : IntegerInterval) (n : IsNonEmpty i) (m : IsNonEmpty j) (p : IsWithin i k) (q : IsWithin j l) where
  -- an operation's values at the ends are those of larger operands
  at_ends_monotone : (o : BinaryOperation) → IsDefined o l
      → IsWithin
      (span_of_four (binary_value o i.low j.low) (binary_value o i.low j.high) (binary_value o i.high j.low)
      (binary_value o i.high j.high)) (binary_interval o k l)
  at_ends_monotone o d =
      four_within _ _ _ _ (binary_interval o k l)
      (binary_sound o k l i.low j.low d (low_included i k n p) (low_included j l m q))
      (binary_sound o k l i.low j.high d (low_included i k n p) (high_included j l m q))
      (binary_sound o k l i.high j.low d (high_included i k n p) (low_included j l m q))
      (binary_sound o k l i.high j.high d (high_included i k n p) (high_included j l m q))

  remainder_ends : (b c : Bool) → int_le (pos 0) i.low ≡ b → int_le (pos 0) k.low ≡ c → pos 1 ≤ℤ l.low
      → cond b (int_min i.high (j.high -ℤ pos 1)) (j.high -ℤ pos 1) ≤ℤ cond c (int_min k.high (l.high -ℤ pos 1)) (l.high -ℤ pos 1)
  remainder_ends true true e f d = let y = p.1 in let w = q.1 in omega (arith, ints, clamps)
  remainder_ends true false e f d = let w = q.1 in omega (arith, ints, clamps)
  remainder_ends false true e f d = let x = p.0 in let u = le_false (pos 0) i.low e in let v = le_true (pos 0) k.low f in absurd (omega (arith, ints))
  remainder_ends false false e f d = let w = q.1 in omega (arith, ints)

  pub binary_monotone : (o : BinaryOperation) → IsDefined o l → IsWithin (binary_interval o i j) (binary_interval o k l)
  binary_monotone BinaryOperation.Sum d = let x = p.0 in let y = p.1 in let z = q.0 in let w = q.1 in (omega (arith, ints), omega (arith, ints))
  binary_monotone BinaryOperation.Difference d = let x = p.0 in let y = p.1 in let z = q.0 in let w = q.1 in (omega (arith, ints), omega (arith, ints))
  binary_monotone BinaryOperation.Product d = at_ends_monotone BinaryOperation.Product d
  binary_monotone BinaryOperation.Quotient d = at_ends_monotone BinaryOperation.Quotient d
  binary_monotone BinaryOperation.Remainder d = (omega (arith, ints), remainder_ends (int_le (pos 0) i.low) (int_le (pos 0) k.low) refl refl (d refl))
  binary_monotone BinaryOperation.Maximum d = let x = p.0 in let y = p.1 in let z = q.0 in let w = q.1 in (omega (arith, ints, clamps), omega (arith, ints, clamps))
  binary_monotone BinaryOperation.Minimum d = let x = p.0 in let y = p.1 in let z = q.0 in let w = q.1 in (omega (arith, ints, clamps), omega (arith, ints, clamps))

-- ---- hulls and cuts

pub hull_least : (i j outer : IntegerInterval) → IsWithin i outer → IsWithin j outer → IsWithin (hull i j) outer
hull_least i j outer p q = let x = p.0 in let y = p.1 in let z = q.0 in let w = q.1 in (omega (arith, ints, clamps), omega (arith, ints, clamps))

pub hull_monotone : (i j k l : IntegerInterval) → IsWithin i k → IsWithin j l → IsWithin (hull i j) (hull k l)
hull_monotone i j k l p q = let x = p.0 in let y = p.1 in let z = q.0 in let w = q.1 in (omega (arith, ints, clamps), omega (arith, ints, clamps))

pub cut_monotone : (i k range : IntegerInterval) → IsWithin i k → IsWithin (cut i range) (cut k range)
cut_monotone i k range p = let x = p.0 in let y = p.1 in (omega (arith, ints, clamps), omega (arith, ints, clamps))
