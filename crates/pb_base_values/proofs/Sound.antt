-- The interval of each operation has the operation's values.
use Rattle.std.proofs.Common.{◌↔◌, ◌⊎◌, inl, inr, refl, arith, ℤ, pos, neg_ℤ, ◌*ℤ◌, ◌≤ℤ◌, int_le}
use Rattle.std.specs.Int.{int_max}
use Rattle.std.proofs.lemmas.Int.{ints, clamps}
use Rattle.std.proofs.lemmas.Bool.{cond_both}
use Rattle.pb_base_values.specs.Division.{quotient, remainder}
use Rattle.pb_base_values.specs.Interval.{IntegerInterval, Includes, IsNonEmpty, cut, hull}
use Rattle.pb_base_values.specs.Operation.{UnaryOperation, BinaryOperation, unary_value, binary_value, unary_interval, binary_interval, span_at_ends, remainders}
use Rattle.pb_base_values.specs.Laws.{IsDefined}
use Rattle.pb_base_values.proofs.Ends.{le_true}
use Rattle.pb_base_values.proofs.Products.{Between, product_between_left, product_between_right}
use Rattle.pb_base_values.proofs.QuotientBounds.{quotient_between_left, quotient_between_right, remainder_least, remainder_below, remainder_at_most}

-- a function that lies between its ends in each argument does so in both
at_ends_includes : (f : ℤ → ℤ → ℤ) (i j : IntegerInterval) (a b : ℤ)
    → Between (f i.low b) (f a b) (f i.high b) → Between (f i.low j.low) (f i.low b) (f i.low j.high) → Between (f i.high j.low) (f i.high b) (f i.high j.high)
    → Includes (span_at_ends f i j) (f a b)
at_ends_includes f i j a b p q r = (
  (let x = p.0 in let y = q.0 in let z = r.0 in omega (arith, ints, clamps)),
  (let x = p.1 in let y = q.1 in let z = r.1 in omega (arith, ints, clamps)),
)

remainder_included : (i j : IntegerInterval) (a b : ℤ) → pos 1 ≤ℤ j.low → Includes i a → Includes j b → Includes (remainders i j) (remainder a b)
remainder_included i j a b d p q =
    let at_least = p.0 in
    let at_most = p.1 in
    let from = q.0 in
    let to = q.1 in
    let positive : pos 1 ≤ℤ b = omega (arith, ints) in
    let below = remainder_below a b positive in (
      remainder_least a b positive,
      cond_both (int_le (pos 0) i.low) _ _ (λ t. remainder a b ≤ℤ t)
          (λ e.
          let above = le_true (pos 0) i.low e in
          let most = remainder_at_most a b positive (omega (arith, ints)) in
          omega (arith, ints, clamps))
          (λ e. omega (arith, ints)),
    )

pub unary_sound : (o : UnaryOperation) (i : IntegerInterval) (a : ℤ) → Includes i a → Includes (unary_interval o i) (unary_value o a)
unary_sound UnaryOperation.Negation i a p = let x = p.0 in let y = p.1 in (omega (arith, ints), omega (arith, ints))
unary_sound UnaryOperation.Successor i a p = let x = p.0 in let y = p.1 in (omega (arith, ints), omega (arith, ints))
unary_sound UnaryOperation.Predecessor i a p = let x = p.0 in let y = p.1 in (omega (arith, ints), omega (arith, ints))
unary_sound UnaryOperation.AbsoluteValue i a p =
    let x = p.0 in
    let y = p.1 in
    let P : IntegerInterval → Type 0 = λ k. Includes k (unary_value UnaryOperation.AbsoluteValue a) in
    cond_both (int_le (pos 0) i.low) i _ P
    (λ e. let above = le_true (pos 0) i.low e in (omega (arith, ints), omega (arith, ints)))
    (λ e. cond_both (int_le i.high (pos 0)) (record { low = neg_ℤ i.high; high = neg_ℤ i.low }) (record { low = pos 0; high = int_max (neg_ℤ i.low) i.high }) P
    (λ f. let below = le_true i.high (pos 0) f in (omega (arith, ints), omega (arith, ints)))
    (λ f. (omega (arith, ints), omega (arith, ints, clamps))))

pub binary_sound : (o : BinaryOperation) (i j : IntegerInterval) (a b : ℤ) → IsDefined o j → Includes i a → Includes j b → Includes (binary_interval o i j) (binary_value o a b)
binary_sound BinaryOperation.Sum i j a b d p q = let x = p.0 in let y = p.1 in let z = q.0 in let w = q.1 in (omega (arith, ints), omega (arith, ints))
binary_sound BinaryOperation.Difference i j a b d p q = let x = p.0 in let y = p.1 in let z = q.0 in let w = q.1 in (omega (arith, ints), omega (arith, ints))
binary_sound BinaryOperation.Product i j a b d p q =
    at_ends_includes (λ x y. x *ℤ y) i j a b (product_between_left a b i.low i.high p.0 p.1) (product_between_right i.low b j.low j.high q.0 q.1) (product_between_right i.high b j.low j.high q.0 q.1)
binary_sound BinaryOperation.Quotient i j a b d p q =
    let least = d refl in
    let from = q.0 in
    at_ends_includes quotient i j a b (quotient_between_left a b i.low i.high (omega (arith, ints)) p.0 p.1)
    (quotient_between_right i.low b j.low j.high least q.0 q.1) (quotient_between_right i.high b j.low j.high least q.0 q.1)
binary_sound BinaryOperation.Remainder i j a b d p q = remainder_included i j a b (d refl) p q
binary_sound BinaryOperation.Maximum i j a b d p q = let x = p.0 in let y = p.1 in let z = q.0 in let w = q.1 in (omega (arith, ints, clamps), omega (arith, ints, clamps))
binary_sound BinaryOperation.Minimum i j a b d p q = let x = p.0 in let y = p.1 in let z = q.0 in let w = q.1 in (omega (arith, ints, clamps), omega (arith, ints, clamps))

pub hull_sound : (i j : IntegerInterval) (v : ℤ) → Includes i v ⊎ Includes j v → Includes (hull i j) v
hull_sound i j v (inl p) = let x = p.0 in let y = p.1 in (omega (arith, ints, clamps), omega (arith, ints, clamps))
hull_sound i j v (inr p) = let x = p.0 in let y = p.1 in (omega (arith, ints, clamps), omega (arith, ints, clamps))

pub cut_sound : (i range : IntegerInterval) (v : ℤ) → (Includes (cut i range) v ↔ (Includes i v × Includes range v))
cut_sound i range v = (
  (λ p. let x = p.0 in let y = p.1 in ((omega (arith, ints, clamps), omega (arith, ints, clamps)), (omega (arith, ints, clamps), omega (arith, ints, clamps)))),
  (λ p. let x = p.0.0 in let y = p.0.1 in let z = p.1.0 in let w = p.1.1 in (omega (arith, ints, clamps), omega (arith, ints, clamps))),
)

-- ---- results that aren't empty

low_included : (i : IntegerInterval) → IsNonEmpty i → Includes i i.low
low_included i h = (omega (arith, ints), h)

non_empty : (i : IntegerInterval) (v : ℤ) → Includes i v → IsNonEmpty i
non_empty i v p = let x = p.0 in let y = p.1 in omega (arith, ints)

pub unary_non_empty : (o : UnaryOperation) (i : IntegerInterval) → IsNonEmpty i → IsNonEmpty (unary_interval o i)
unary_non_empty o i h = non_empty (unary_interval o i) _ (unary_sound o i i.low (low_included i h))

pub binary_non_empty : (o : BinaryOperation) (i j : IntegerInterval) → IsDefined o j → IsNonEmpty i → IsNonEmpty j → IsNonEmpty (binary_interval o i j)
binary_non_empty o i j d h k = non_empty (binary_interval o i j) _ (binary_sound o i j i.low j.low d (low_included i h) (low_included j k))

pub hull_non_empty : (i j : IntegerInterval) → IsNonEmpty i ⊎ IsNonEmpty j → IsNonEmpty (hull i j)
hull_non_empty i j (inl h) = omega (arith, ints, clamps)
hull_non_empty i j (inr h) = omega (arith, ints, clamps)
