-- Values of a shape, and values within the limits.
use Rattle.std.proofs.Common.{◌≡◌, Bool, true, false, cond, ◌||◌, [], ◌∷◌, refl, sym, ◌∙◌, ap, subst, arith, ℤ, pos, negsuc, ◌-ℤ◌, ◌+ℤ◌, ◌≤ℤ◌, ◌<ℤ◌, int_le, int_eq, true≢false, Some, None}
use Rattle.std.proofs.lemmas.Int.{ints}
use Rattle.std.proofs.lemmas.Bool.Decides.{Decides-int_eq}
use Rattle.std.proofs.lemmas.Bool.{and_parts}
use Rattle.pb_base_values.specs.Carrier.{contains, of_bool, at_least_none}
use Rattle.pb_sorts.proofs.Intervals.{contains-numbers_from}
use Rattle.pb_base_values.specs.Interval.{IntegerInterval, Includes, is_included, within, literals}
use Rattle.pb_base_values.proofs.Ends.{le_true}
use Rattle.pb_text_meaning.specs.Fits.{IsBounded}
use Rattle.pb_typing_declarations.specs.Shapes.{Shape, Unknown, Truths, Places, Wholes, shape_carrier}
use Rattle.pb_typing_rules.specs.Shapes.{IsValueOf, is_limited, between, of_interval}

-- the value is one of the shape's and within the limits
pub record Contained (s : Shape) (v : ℤ) : Type 0 where
  pub value : IsValueOf s v
  pub bounded : IsBounded v

pub bounded_in : (i : IntegerInterval) (v : ℤ) → is_included i literals ≡ true → Includes i v → IsBounded v
bounded_in i v e p =
    let ends = and_parts (int_le literals.low i.low) (int_le i.high literals.high) e in
    let low = le_true literals.low i.low ends.0 in
    let high = le_true i.high literals.high ends.1 in
    let above = p.0 in
    let below = p.1 in
    record { low = omega (arith, ints); high = omega (arith, ints) }

-- a value of a shape within the limits
pub bounded_value : (s : Shape) (v : ℤ) → is_limited s ≡ true → IsValueOf s v → IsBounded v
bounded_value Unknown v e h = absurd h
bounded_value Truths v e h = let x = h.0 in let y = h.1 in record { low = omega (arith, ints); high = omega (arith, ints) }
bounded_value (Places s n) v e h = bounded_in (between (pos 0) (pos n -ℤ pos 1)) v e h
bounded_value (Wholes low high) v e h = bounded_in (between low high) v e h

pub truth_value : (b : Bool) → Contained Truths (of_bool b)
truth_value true = record { value = (omega (arith, ints), omega (arith, ints)); bounded = record { low = omega (arith, ints); high = omega (arith, ints) } }
truth_value false = record { value = (omega (arith, ints), omega (arith, ints)); bounded = record { low = omega (arith, ints); high = omega (arith, ints) } }

-- ---- whole numbers of an interval within the limits

pub whole_value : (i : IntegerInterval) (v : ℤ) → is_included i literals ≡ true → Includes i v → Contained (of_interval (within literals i)) v
whole_value i v e p = subst (λ (b : Bool). Contained (of_interval (cond b (Some i) None)) v) (sym e) (record { value = p; bounded = bounded_in i v e p })

-- ---- values of carriers

or_true : (a b : Bool) → (a || b) ≡ true → (b ≡ false → a ≡ true)
or_true true b e f = refl
or_true false b e f = absurd (true≢false (sym e ∙ f))

up_to : (low high v d : ℤ) → d ≡ high -ℤ low +ℤ pos 1 → low ≤ℤ v → v <ℤ (low +ℤ pos (at_least_none d)) → v ≤ℤ high
up_to low high v (pos n) e p q = omega (arith, ints)
up_to low high v (negsuc n) e p q = absurd (omega (arith, ints))

truth_in : (v : ℤ) → contains (of_bool false ∷ of_bool true ∷ []) v ≡ true → IsValueOf Truths v
truth_in v e = elim_bool (int_eq (of_bool false) v) refl
  where
    elim_bool : (b : Bool) → int_eq (of_bool false) v ≡ b → IsValueOf Truths v
    elim_bool true f = let same = (Decides-int_eq (pos 0) v).0 f in (omega (arith, ints), omega (arith, ints))
    elim_bool false f =
        let rest : (int_eq (of_bool true) v || false) ≡ true = sym (ap (λ b. b || (int_eq (of_bool true) v || false)) f) ∙ e in
        let same = (Decides-int_eq (pos 1) v).0 (or_true (int_eq (of_bool true) v) false rest refl) in (omega (arith, ints), omega (arith, ints))

pub carrier_value : (s : Shape) (v : ℤ) → contains (shape_carrier s) v ≡ true → IsValueOf s v
carrier_value Unknown v e = absurd (true≢false (sym e))
carrier_value Truths v e = truth_in v e
carrier_value (Places s n) v e =
    let p = (contains-numbers_from (pos 0) n v).0 e in
    let above = p.0 in
    let below = p.1 in
    (above, omega (arith, ints))
carrier_value (Wholes low high) v e =
    let p = (contains-numbers_from low (at_least_none (high -ℤ low +ℤ pos 1)) v).0 e in
    (p.0, up_to low high v (high -ℤ low +ℤ pos 1) refl p.0 p.1)
