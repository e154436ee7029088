-- The values of a carrier are those that are known of it, and an inhabited carrier has a first one.
use Rattle.std.proofs.Common.{◌≡◌, ℕ, zero, suc, ◌<◌, Bool, true, false, cond, ◌&&◌, ◌||◌, List, [], ◌∷◌, map, Some, None, refl, arith, subst, ◌⊎◌, inl, inr}
use Rattle.std.specs.Prelude.{ℤ, pos, ◌+ℤ◌, ◌-ℤ◌, int_le, nat_lt, ◌==◌, if◌then◌else◌}
use Rattle.std.proofs.lemmas.Int.{ints}
use Rattle.std.proofs.lemmas.Bool.{and_parts, ltb-true, or_right, or_cases, false≢true}
use Rattle.pb_sorts.specs.Carrier.{values_of}
use Rattle.pb_sorts.proofs.Intervals.{contains-interval, contains-numbers_from, count-interval}
use Rattle.pb_bytecode_program.specs.Values.{TaggedValue, BoolValue, IntValue, EnumValue, tagged, untagged, tagged_values, is_inhabited}
use Rattle.pb_bytecode_program.specs.Abstract.{IsAbstractedBy, abstraction_of}
use Rattle.pb_bytecode_program.specs.declared.domain.AbstractValue.{AbstractValue}
use Rattle.pb_bytecode_program.specs.declared.domain.AbstractValue.TheVariants as abstract
use Rattle.std.specs.Ordering.{int_eq}
use Rattle.std.proofs.lemmas.Bool.Decides.{Decides-int_eq}
use Rattle.pb_base_values.specs.Carrier as carriers
use Rattle.pb_bytecode_program.specs.Machine
use Rattle.pb_bytecode_program.proofs.Invariant.{AllWithin}
use Rattle.pb_sorts.specs.declared.carrier.Carrier.{Carrier}
use Rattle.pb_sorts.specs.declared.carrier.Carrier.TheVariants as carrier
use Rattle.pb_bytecode_program.proofs.Ints.{le_true}

-- ---- a carrier's values

-- a number of the carrier, with its kind, is one that is known of the carrier
pub tagged_within : (c : Carrier) (z : ℤ) → carriers.contains (values_of c) z ≡ true → IsAbstractedBy (tagged c z) (abstraction_of c)
tagged_within carrier.Bool z e = tt
tagged_within (carrier.Enum enum) z e = let w = (contains-numbers_from (pos 0) enum.count z).0 e in let a = w.0 in let b = w.1 in (refl, omega (arith, ints))
tagged_within (carrier.Range range) z e = (contains-interval range.low range.high z range.not_empty).0 e

-- and so is the number of it, without its kind
pub untagged-tagged : (c : Carrier) (z : ℤ) → carriers.contains (values_of c) z ≡ true → untagged (tagged c z) ≡ z
untagged-tagged carrier.Bool z e = one_of_two (or_cases (int_eq (pos 0) z) (int_eq (pos 1) z || false) e)
  where
    same : (n : ℤ) → int_eq n z ≡ true → untagged (tagged carrier.Bool n) ≡ n → untagged (tagged carrier.Bool z) ≡ z
    same n e h = subst (λ (y : ℤ). untagged (tagged carrier.Bool y) ≡ y) ((Decides-int_eq n z).0 e) h

    one_of_two : (int_eq (pos 0) z ≡ true) ⊎ ((int_eq (pos 1) z || false) ≡ true) → untagged (tagged carrier.Bool z) ≡ z
    one_of_two (inl h) = same (pos 0) h refl
    one_of_two (inr h) = elim (or_cases (int_eq (pos 1) z) false h) [ inl k ↦ same (pos 1) k refl | inr k ↦ absurd (false≢true k) ]
untagged-tagged (carrier.Enum enum) z e = let least = ((contains-numbers_from (pos 0) enum.count z).0 e).0 in omega (arith, ints)
untagged-tagged (carrier.Range range) z e = refl

-- an argument without a fault is a number of the carrier
pub untagged_contained : (v : TaggedValue) (c : Carrier) → Machine.argument_fault v c ≡ None → carriers.contains (values_of c) (untagged v) ≡ true
untagged_contained (BoolValue true) carrier.Bool e = refl
untagged_contained (BoolValue false) carrier.Bool e = refl
untagged_contained (IntValue z) (carrier.Range range) e = by (int_le range.low z && int_le z range.high) refl e
  where
    by : (b : Bool) → (int_le range.low z && int_le z range.high) ≡ b → cond b None (Some Machine.Argument) ≡ None → carriers.contains (values_of (carrier.Range range)) z ≡ true
    by true t f =
        let two = and_parts (int_le range.low z) (int_le z range.high) t in
        (contains-interval range.low range.high z range.not_empty).1 (le_true range.low z two.0, le_true z range.high two.1)
    by false t f = cc
untagged_contained (EnumValue s i) (carrier.Enum enum) e = by (s == enum.sort) (nat_lt i enum.count) refl e
  where
    by : (a b : Bool) → nat_lt i enum.count ≡ b
        → (if a then (if b then None else Some Machine.Argument) else Some Machine.WrongKind) ≡ None
        → carriers.contains (values_of (carrier.Enum enum)) (pos i) ≡ true
    by true true t f = let less = ltb-true i enum.count t in (contains-numbers_from (pos 0) enum.count (pos i)).1 (omega (arith, ints), omega (arith, ints))
    by true false t f = cc
    by false b t f = cc
untagged_contained (BoolValue b) (carrier.Enum enum) e = cc
untagged_contained (BoolValue b) (carrier.Range range) e = cc
untagged_contained (IntValue z) carrier.Bool e = cc
untagged_contained (IntValue z) (carrier.Enum enum) e = cc
untagged_contained (EnumValue s i) carrier.Bool e = cc
untagged_contained (EnumValue s i) (carrier.Range range) e = cc

numbers_tagged : (c : Carrier) (zs : List ℤ) (s : AbstractValue) → ((z : ℤ) → carriers.contains zs z ≡ true → IsAbstractedBy (tagged c z) s) → AllWithin (map (tagged c) zs) s
numbers_tagged c [] s h = tt
numbers_tagged c (z ∷ zs) s h =
    (h z (rw ((Decides-int_eq z z).1 refl) refl), numbers_tagged c zs s (λ y e. h y (or_right (int_eq z y) (carriers.contains zs y) e)))

pub values_within : (c : Carrier) → AllWithin (tagged_values c) (abstraction_of c)
values_within c = numbers_tagged c (values_of c) (abstraction_of c) (tagged_within c)

abbrev pub HasFirst : {A : Type 0} → List A → Type 0
HasFirst [] = ⊥
HasFirst (v ∷ vs) = Unit {0}

first_number : (low : ℤ) (n : ℕ) → 0 < n → HasFirst (carriers.numbers_from low n)
first_number low zero h = absurd (omega arith)
first_number low (suc n) h = tt

first_tagged : (c : Carrier) (zs : List ℤ) → HasFirst zs → HasFirst (map (tagged c) zs)
first_tagged c [] h = absurd h
first_tagged c (z ∷ zs) h = tt

pub first_of_carrier : (c : Carrier) → is_inhabited c ≡ true → HasFirst (tagged_values c)
first_of_carrier carrier.Bool e = tt
first_of_carrier (carrier.Enum enum) e = first_tagged (carrier.Enum enum) _ (first_number (pos 0) enum.count (ltb-true 0 enum.count e))
first_of_carrier (carrier.Range range) e =
    let l = count-interval range.low range.high (le_true range.low range.high e) in
    first_tagged (carrier.Range range) _ (first_number range.low (carriers.at_least_none (range.high -ℤ range.low +ℤ pos 1)) (omega (arith, ints)))
