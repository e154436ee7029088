-- Equal ends, and which case of an interval's rule holds.
use Rattle.std.proofs.Common.{◌≡◌, ◌^◌, ◌<◌, true, false, refl, ap, ◌∙◌, arith, ℤ, pos, neg_ℤ, ◌-ℤ◌, ◌≤ℤ◌, ◌<ℤ◌, int_le, Option, to_z, of_z, to_z-of_z, w64}
use lib.Signed.{mag}
use mir.Syntax.{w128}
use Rattle.std.specs.Int.{int_min, int_max}
use Rattle.std.proofs.lemmas.Int.{ints}
use Rattle.pb_base_values.specs.Interval.{IntegerInterval, within}
use Rattle.pb_base_values.specs.Operation.{absolute_values, negations, remainders, span_of_four}

pub from_le : (a b : ℤ) → a ≤ℤ b → int_le a b ≡ true
from_le a b h = grind (arith, ints)

pub from_lt : (a b : ℤ) → b <ℤ a → int_le a b ≡ false
from_lt a b h = grind (arith, ints)

pub le_true : (a b : ℤ) → int_le a b ≡ true → a ≤ℤ b
le_true a b h = grind (arith, ints)

pub le_false : (a b : ℤ) → int_le a b ≡ false → b <ℤ a
le_false a b h = grind (arith, ints)

abbrev pub between : ℤ → ℤ → IntegerInterval
between l h = record { low = l; high = h }

pub same_ends : {l l' h h' : ℤ} → l ≡ l' → h ≡ h' → between l h ≡ between l' h'
same_ends p q = cc

-- a limited result, its interval written in another way
pub same_within : (limits : IntegerInterval) (r : Option IntegerInterval) (l h : ℤ) (i : IntegerInterval) → r ≡ within limits (between l h) → l ≡ i.low → h ≡ i.high → r ≡ within limits i
same_within limits r l h i e p q = e ∙ ap (within limits) (same_ends p q)

-- ---- absolute values

pub absolute_below : (i : IntegerInterval) → i.low <ℤ pos 0 → i.high ≤ℤ pos 0 → absolute_values i ≡ negations i
absolute_below i h k = rw (from_lt (pos 0) i.low h, from_le i.high (pos 0) k) refl

pub absolute_across : (i : IntegerInterval) → i.low <ℤ pos 0 → pos 0 <ℤ i.high → absolute_values i ≡ between (pos 0) (int_max (neg_ℤ i.low) i.high)
absolute_across i h k = rw (from_lt (pos 0) i.low h, from_lt i.high (pos 0) k) refl

-- ---- remainders

pub remainders_above : (i j : IntegerInterval) → pos 0 ≤ℤ i.low → remainders i j ≡ between (pos 0) (int_min i.high (j.high -ℤ pos 1))
remainders_above i j h = rw (from_le (pos 0) i.low h) refl

pub remainders_below : (i j : IntegerInterval) → i.low <ℤ pos 0 → remainders i j ≡ between (pos 0) (j.high -ℤ pos 1)
remainders_below i j h = rw (from_lt (pos 0) i.low h) refl

-- ---- numbers of 128 bits and of 64, as they are passed

pub passed : (z v : ℤ) → mag z < 2 ^ 127 → z ≡ v → to_z w128 (of_z w128 z) ≡ v
passed z v fits e = to_z-of_z {w = w128} (record { sfits = fits }) ∙ e

pub passed_word : (z v : ℤ) → mag z < 2 ^ 63 → z ≡ v → to_z w64 (of_z w64 z) ≡ v
passed_word z v fits e = to_z-of_z {w = w64} (record { sfits = fits }) ∙ e

pub same_two : {A : Type 0} (f : ℤ → ℤ → A) {x x' y y' : ℤ} → x ≡ x' → y ≡ y' → f x y ≡ f x' y'
same_two f p q = cc

pub same_span : {a a' b b' c c' d d' : ℤ} → a ≡ a' → b ≡ b' → c ≡ c' → d ≡ d' → span_of_four a b c d ≡ span_of_four a' b' c' d'
same_span p q r s = cc
