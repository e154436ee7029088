-- No carrier has a value twice, and no tuple occurs twice among those of carriers.
use Rattle.std.proofs.Common.{◌≡◌, ◌≢◌, inl, inr, ℕ, zero, suc, ◌<◌, ℤ, pos, ◌+ℤ◌, ◌<ℤ◌, Bool, true, false, true≢false, ◌||◌, List, [], ◌∷◌, length, get_or, int_eq, refl, sym, ap, ◌∙◌, arith}
use Rattle.std.specs.Prelude.{⊤, All, AllPairs, Option, Some, None, codes}
use Rattle.std.proofs.lemmas.Int.{ints}
use Rattle.std.proofs.lemmas.Bool.{or_from, or_right}
use Rattle.std.proofs.lemmas.Bool.Decides.{Decides-int_eq}
use Rattle.pb_base_values.specs.Carrier.{Value, Carrier, Tuple, contains, numbers_from}
use Rattle.pb_base_values.proofs.Tuples.{In}
use Rattle.pb_base_values.proofs.Apart.{tuples_apart}
use Rattle.pb_text_meaning.specs.Syntax.{Name, same_name, Variable, Sort, Struct, Alias, Range, Spec}
use Rattle.pb_text_meaning.specs.Sorts.{declared, range_of, carrier_by, carrier_within, carrier_of}
use Rattle.pb_text_meaning.specs.Formula.{carriers_of}
use Rattle.pb_protocol_meaning.specs.Syntax.{StateVariable}
use Rattle.pb_protocol_meaning.specs.Steps.{indices_of}

abbrev pub IsDistinct : Carrier → Type 0
IsDistinct [] = ⊤
IsDistinct (v ∷ c) = (contains c v ≡ false) × IsDistinct c

pub not-equal : (v w : Value) → (v ≡ w → ⊥) → int_eq v w ≡ false
not-equal v w h = by (int_eq v w) refl
  where
    by : (b : Bool) → int_eq v w ≡ b → b ≡ false
    by true e = absurd (h ((Decides-int_eq v w).0 e))
    by false e = refl

pub differ : (v w : Value) → int_eq v w ≡ false → v ≡ w → ⊥
differ v w h e = true≢false (sym ((Decides-int_eq v w).1 e) ∙ h)

-- ---- carriers

below-none : (n : ℕ) (k low : ℤ) → low <ℤ k → contains (numbers_from k n) low ≡ false
below-none zero k low h = refl
below-none (suc n) k low h =
    or_from (int_eq k low) (contains (numbers_from (k +ℤ pos 1) n) low)
    (not-equal k low (λ e. omega (arith, ints, e, h)))
    (below-none n (k +ℤ pos 1) low (omega (arith, ints, h)))

numbers-distinct : (n : ℕ) (low : ℤ) → IsDistinct (numbers_from low n)
numbers-distinct zero low = tt
numbers-distinct (suc n) low = (below-none n (low +ℤ pos 1) low (omega (arith, ints)), numbers-distinct n (low +ℤ pos 1))

by-distinct : (r : Option Range) (b : Bool) (o : Option Sort) (target : Name → Carrier) → ((s : Name) → IsDistinct (target s)) → IsDistinct (carrier_by r b o target)
by-distinct (Some r) b o target h = numbers-distinct _ r.low
by-distinct None true o target h = (refl, (refl, tt))
by-distinct None false (Some (Struct es)) target h = numbers-distinct (length es) (pos 0)
by-distinct None false (Some (Alias s)) target h = h s
by-distinct None false None target h = tt

within-distinct : (n : ℕ) (spec : Spec) (s : Name) → IsDistinct (carrier_within n spec s)
within-distinct zero spec s = tt
within-distinct (suc n) spec s =
    by-distinct (range_of spec.ranges s) (same_name s (codes "Bool")) (declared spec.sorts s) (carrier_within n spec) (within-distinct n spec)

pub carrier-distinct : (spec : Spec) (s : Name) → IsDistinct (carrier_of spec s)
carrier-distinct spec s = within-distinct (suc (length spec.sorts)) spec s

-- ---- tuples

-- no element occurs twice
abbrev pub AreOnce : List Tuple → Type 0
AreOnce [] = ⊤
AreOnce (i ∷ is) = (In i is → ⊥) × AreOnce is

place-of : (i d : Tuple) (is : List Tuple) → In i is → (k : ℕ) × (k < length is) × (get_or is k d ≡ i)
place-of i d [] h = absurd h
place-of i d (j ∷ is) (inl e) = (0, omega arith, e)
place-of i d (j ∷ is) (inr h) = let p = place-of i d is h in (suc p.0, omega (arith, p.1), p.2)

once-of : (is : List Tuple) → AllPairs (λ (i j : Tuple). i ≢ j) is → AreOnce is
once-of [] pairs = tt
once-of (i ∷ is) pairs = (
  (λ h. let p = place-of i i is h in pairs 0 (suc p.0) i (omega arith) (omega (arith, p.1)) (sym p.2)),
  once-of is (λ k n d lt below. pairs (suc k) (suc n) d (omega arith) (omega arith)),
)

contains-at : (c : Carrier) (k : ℕ) (d : Value) → k < length c → contains c (get_or c k d) ≡ true
contains-at [] k d below = absurd (omega (arith, below))
contains-at (v ∷ c) zero d below = ap (λ b. b || contains c v) ((Decides-int_eq v v).1 refl)
contains-at (v ∷ c) (suc k) d below = or_right (int_eq v (get_or c k d)) (contains c (get_or c k d)) (contains-at c k d (omega arith))

pairs-of : (c : Carrier) → IsDistinct c → AllPairs (λ (u v : Value). u ≢ v) c
pairs-of [] h i j d lt below = absurd (omega (arith, below))
pairs-of (v ∷ c) h zero zero d lt below = absurd (omega arith)
pairs-of (v ∷ c) h zero (suc j) d lt below = λ e. true≢false (sym (contains-at c j d (omega arith)) ∙ (ap (contains c) (sym e) ∙ h.0))
pairs-of (v ∷ c) h (suc i) zero d lt below = absurd (omega arith)
pairs-of (v ∷ c) h (suc i) (suc j) d lt below = pairs-of c h.1 i j d (omega arith) (omega arith)

carriers-distinct : (spec : Spec) (xs : List Variable) → All (AllPairs (λ (u v : Value). u ≢ v)) (carriers_of spec xs)
carriers-distinct spec [] k d below = absurd (omega (arith, below))
carriers-distinct spec (x ∷ xs) zero d below = pairs-of (carrier_of spec x.sort) (carrier-distinct spec x.sort)
carriers-distinct spec (x ∷ xs) (suc k) d below = carriers-distinct spec xs k d (omega arith)

pub indices-once : (spec : Spec) (y : StateVariable) → AreOnce (indices_of spec y)
indices-once spec y = once-of (indices_of spec y) (tuples_apart (carriers_of spec y.indices) (carriers-distinct spec y.indices))
