-- The values of state variables are among those between which the names stay that may be theirs.
use Rattle.std.proofs.Common.{◌≡◌, ℕ, zero, suc, Bool, true, false, not, ◌&&◌, ◌||◌, if◌then◌else◌, List, [], ◌∷◌, ◌++◌, length, Option, Some, None, ℤ, pos, negsuc, ◌+ℤ◌, ◌-ℤ◌, ◌≤ℤ◌, inl, inr, refl, sym, ap, ◌∙◌, subst, arith, slice_get, slice_index_or, nat_eq, ◌<◌}
use Rattle.std.specs.Prelude.{codes, option_map}
use Rattle.std.specs.Ordering.{int_eq}
use Rattle.std.specs.List.{starts_with}
use lib.Pointwise.{pointwise}
use Rattle.std.proofs.lemmas.List.{append_assoc, append-nil}
use Rattle.std.proofs.Math.Seq.{take-append_seam}
use Rattle.std.proofs.lemmas.Bool.Decides.{Decides-int_eq, nat_tests}
use Rattle.std.proofs.lemmas.Slice.Eq.{bytes_eq-Decides}
use Rattle.std.proofs.lemmas.Bool.{false≢true}
use Rattle.pb_base_values.specs.Carrier.{Carrier, Value, at_least_none, contains, numbers_from}
use Rattle.pb_base_values.specs.Carrier as carrier
use Rattle.pb_base_values.specs.Interval.{IntegerInterval, Includes, singleton, unless_empty}
use Rattle.std.proofs.lemmas.Int.{ints}
use Rattle.pb_base_values.proofs.Ends.{from_le}
use Rattle.pb_base_values.proofs.Sound.{hull_sound}
use Rattle.pb_text_meaning.specs.Syntax.{Name, same_name, Variable, Range, Sort, Struct, Alias, Spec, Term}
use Rattle.pb_text_meaning.specs.Sorts.{carrier_by, carrier_within, declared, range_of}
use Rattle.pb_text_meaning.specs.Value.{looked_up, named_value}
use Rattle.pb_protocol_folding.specs.Folding.{place_value}
use Rattle.pb_protocol_meaning.specs.Syntax.{StateVariable}
use Rattle.pb_protocol_unfolding.specs.Written.{element, element_of, spelled}
use Rattle.pb_protocol_unfolder_terms.specs.Bounds.{either, interval_among, interval_by, interval_or, interval_within, is_plain_name, is_quote, may_be_element, may_be_of, places, sort_interval, truths, variable_interval}
use Rattle.pb_protocol_unfolder_terms.specs.Held.{ElementsMayBeOfTheirArray, Holds, VariablesHold}

-- it is known between which numbers, and v is among them
abbrev pub IsIn : Option IntegerInterval → Value → Type 0
IsIn None v = ⊥
IsIn (Some i) v = Includes i v

in-held : (i : Option IntegerInterval) (v : Value) → IsIn i v → Holds i v
in-held None v h = absurd h
in-held (Some i) v h = h

-- ---- sorts

-- n numbers from low on
numbers-within : (n : ℕ) (low v : Value) → contains (numbers_from low n) v ≡ true → (low ≤ℤ v) × ((v +ℤ pos 1) ≤ℤ (low +ℤ pos n))
numbers-within zero low v e = absurd (false≢true e)
numbers-within (suc n) low v e = by (int_eq low v) refl e (λ c. numbers-within n (low +ℤ pos 1) v c)
  where
    by : (b : Bool) → int_eq low v ≡ b → (b || contains (numbers_from (low +ℤ pos 1) n) v) ≡ true
        → (contains (numbers_from (low +ℤ pos 1) n) v ≡ true → ((low +ℤ pos 1) ≤ℤ v) × ((v +ℤ pos 1) ≤ℤ (low +ℤ pos 1 +ℤ pos n)))
        → (low ≤ℤ v) × ((v +ℤ pos 1) ≤ℤ (low +ℤ pos (suc n)))
    by true h c rest = let same = (Decides-int_eq low v).0 h in (omega (arith, ints, same), omega (arith, ints, same))
    by false h c rest = let x = (rest c).0 in let y = (rest c).1 in (omega (arith, ints), omega (arith, ints))

-- an interval that isn't empty
filled : (i : IntegerInterval) (v : Value) → Includes i v → IsIn (unless_empty i) v
filled i v h = subst (λ (b : Bool). IsIn (if b then Some i else None) v) (sym (from_le i.low i.high some)) h
  where
    some : i.low ≤ℤ i.high
    some = let x = h.0 in let y = h.1 in omega (arith, ints)

range-within : (low high v : Value) → contains (carrier.interval low high) v ≡ true → Includes (record { low = low; high = high }) v
range-within low high v e = by (high -ℤ low +ℤ pos 1) refl e
  where
    by : (d : ℤ) → high -ℤ low +ℤ pos 1 ≡ d → contains (numbers_from low (at_least_none d)) v ≡ true → Includes (record { low = low; high = high }) v
    by (pos n) count c = let h = numbers-within n low v c in let x = h.0 in let y = h.1 in (x, omega (arith, ints, count, y))
    by (negsuc n) count c = absurd (false≢true c)

enumerators-within : (n : ℕ) (v : Value) → contains (numbers_from (pos 0) n) v ≡ true → Includes (places n) v
enumerators-within n v e = let h = numbers-within n (pos 0) v e in let x = h.0 in let y = h.1 in (x, omega (arith, ints, y))

truth-within : (v : Value) → contains (pos 0 ∷ pos 1 ∷ []) v ≡ true → Includes truths v
truth-within v e = enumerators-within 2 v e

by-sort : (r : Option Range) (b : Bool) (s : Option Sort) (c : Name → Carrier) (i : Name → Option IntegerInterval) (v : Value)
    → ((t : Name) → contains (c t) v ≡ true → IsIn (i t) v) → contains (carrier_by r b s c) v ≡ true → IsIn (interval_by r b s i) v
by-sort (Some r) b s c i v h e = filled (record { low = r.low; high = r.high }) v (range-within r.low r.high v e)
by-sort None true s c i v h e = truth-within v e
by-sort None false (Some (Struct es)) c i v h e = filled (places (length es)) v (enumerators-within (length es) v e)
by-sort None false (Some (Alias t)) c i v h e = h t e
by-sort None false None c i v h e = absurd (false≢true e)

sort-within : (n : ℕ) (spec : Spec) (s : Name) (v : Value) → contains (carrier_within n spec s) v ≡ true → IsIn (interval_within n spec s) v
sort-within zero spec s v e = absurd (false≢true e)
sort-within (suc n) spec s v e =
    by-sort (range_of spec.ranges s) (same_name s (codes "Bool")) (declared spec.sorts s) (carrier_within n spec) (interval_within n spec) v (λ t c. sort-within n spec t v c) e

-- ---- state variables

either-first : (i j : Option IntegerInterval) (v : Value) → IsIn i v → IsIn (either i j) v
either-first None j v h = absurd h
either-first (Some i) None v h = h
either-first (Some i) (Some j) v h = hull_sound i j v (inl h)

either-second : (i j : Option IntegerInterval) (v : Value) → IsIn j v → IsIn (either i j) v
either-second None j v h = h
either-second (Some i) None v h = absurd h
either-second (Some i) (Some j) v h = hull_sound i j v (inr h)

variable-within : (spec : Spec) (p : Bool) (ys : List StateVariable) (x : Name) (k : ℕ) (y : StateVariable) (v : Value) → k < length ys → slice_index_or ys k y ≡ y
    → may_be_of p y x ≡ true → IsIn (sort_interval spec y.sort) v → IsIn (interval_among spec p ys x) v
variable-within spec p [] x k y v within there of h = absurd (omega (arith, within))
variable-within spec p (z ∷ ys) x zero y v within there of h =
    subst (λ (w : StateVariable). IsIn (if may_be_of p w x then either (sort_interval spec w.sort) (interval_among spec p ys x) else interval_among spec p ys x) v) (sym there)
    (subst (λ (b : Bool). IsIn (if b then either (sort_interval spec y.sort) (interval_among spec p ys x) else interval_among spec p ys x) v) (sym of)
    (either-first (sort_interval spec y.sort) (interval_among spec p ys x) v h))
variable-within spec p (z ∷ ys) x (suc k) y v within there of h = by (may_be_of p z x) (variable-within spec p ys x k y v (omega (arith, within)) there of h)
  where
    by : (b : Bool) → IsIn (interval_among spec p ys x) v → IsIn (if b then either (sort_interval spec z.sort) (interval_among spec p ys x) else interval_among spec p ys x) v
    by true rest = either-second (sort_interval spec z.sort) (interval_among spec p ys x) v rest
    by false rest = rest

pub variables_hold : VariablesHold
variables_hold spec ys a x y v found free there of inside =
    subst (λ (o : Option ℕ). Holds (interval_or (option_map singleton (place_value o)) (variable_interval spec ys x)) (named_value spec (looked_up a x) x)) (sym free)
    (subst (λ (o : Option Value). Holds (variable_interval spec ys x) (named_value spec o x)) (sym found)
    (in-held (variable_interval spec ys x) v
    (variable-within spec (is_plain_name ys x) ys x there.0 y v there.1 there.2 of (sort-within (suc (length spec.sorts)) spec y.sort v inside))))

-- ---- names of elements

-- what stands behind an array's name in an element's
abbrev ending : List Term → Name
ending [] = []
ending (k ∷ ks) = 39 ∷ (spelled k ++ ending ks)

element-ends : (ks : List Term) (x : Name) → element_of x ks ≡ x ++ ending ks
element-ends [] x = sym (append-nil x)
element-ends (k ∷ ks) x = element-ends ks (element x k) ∙ append_assoc x (39 ∷ spelled k) (ending ks)

begins : (x r : Name) → starts_with nat_eq (x ++ r) x ≡ true
begins x r = ap (pointwise nat_eq x) (take-append_seam x r) ∙ (bytes_eq-Decides x x).1 refl

behind : (x r : Name) → is_quote (slice_get (x ++ (39 ∷ r)) (length x)) ≡ true
behind [] r = refl
behind (c ∷ x) r = behind x r

some : (n : ℕ) → nat_eq (suc n) 0 ≡ false
some n = grind (arith, nat_tests)

pub elements_may_be_of_their_array : ElementsMayBeOfTheirArray
elements_may_be_of_their_array ys y ks many other = by y.indices ks many other
  where
    p : List Term → Bool
    p ks = is_plain_name ys (element_of y.name ks)

    by : (is : List Variable) (ks : List Term) → length ks ≡ length is → (0 < length is → p ks ≡ false)
        → (if nat_eq (length is) 0 then same_name y.name (element_of y.name ks) else not (p ks) && may_be_element y.name (element_of y.name ks)) ≡ true
    by [] [] many other = (bytes_eq-Decides y.name y.name).1 refl
    by [] (k ∷ ks) many other = absurd (omega (arith, many))
    by (i ∷ is) [] many other = absurd (omega (arith, many))
    by (i ∷ is) (k ∷ ks) many other =
        ap (λ (b : Bool). if b then same_name y.name (element_of y.name (k ∷ ks)) else not (p (k ∷ ks)) && may_be_element y.name (element_of y.name (k ∷ ks))) (some (length is))
        ∙ ap (λ (b : Bool). not b && may_be_element y.name (element_of y.name (k ∷ ks))) (other (omega arith))
        ∙ ap (may_be_element y.name) (element-ends (k ∷ ks) y.name)
        ∙ ap (λ (b : Bool). b && is_quote (slice_get (y.name ++ ending (k ∷ ks)) (length y.name))) (begins y.name (ending (k ∷ ks)))
        ∙ behind y.name (spelled k ++ ending ks)
