-- The values of the terms that a group's variables are said by, and of the number that they make.
use Rattle.std.proofs.Common.{◌≡◌, ℕ, zero, suc, ◌+◌, ◌*◌, ◌/◌, ◌%◌, ◌<◌, ℤ, pos, negsuc, ◌+ℤ◌, ◌-ℤ◌, ◌*ℤ◌, Bool, true, false, true≢false, ◌&&◌, ◌||◌, subst, if◌then◌else◌, List, [], ◌∷◌, length, int_eq, refl, sym, ap, ◌∙◌, arith}
use Rattle.std.specs.Prelude.{nat_eq, Option, Some, None, codes}
use Rattle.std.specs.Cmp.Lexicographic.{same_text}
use Rattle.std.proofs.lemmas.Int.{ints}
use Rattle.std.proofs.Math.Nat.{div-one, mod-eq_of_lt}
use Rattle.std.proofs.lemmas.Bool.Decides.{Decides-int_eq, Decides-eqb}
use Rattle.pb_base_values.specs.Carrier.{Value, of_bool}
use Rattle.pb_base_values.specs.Division.{quotient, remainder}
use Rattle.pb_text_meaning.specs.Syntax.{Name, same_name, Operator, Term, Terms, Spec}
use Rattle.pb_text_meaning.specs.Functions.{named_function}
use Rattle.pb_text_meaning.specs.Value.{Assignment, is_true, binary, value}
use Rattle.pb_protocol_packing.specs.Numbers.{Kind, Boolean, Enumeration, Whole, number, times, divided, rest, raised, lowered, either, enumerator_at, place_of, from_number, computed_number, place_among, place_or, place_number, constant_number, number_or, to_number, between, scaled, is_zero, plus, plus_all, gives_truth, is_truth, is_enumerator, is_surely_within, is_one_of, test_of}
use Rattle.pb_protocol_packing.specs.Said.{Digit, compared_place, by_place, compared}
use Rattle.std.specs.Prelude.{int_le, int_lt, is_some, nat_lt, ◌^◌}
use Rattle.std.proofs.lemmas.Bool.{and_parts}
use Rattle.pb_base_values.specs.Carrier.{numbers_from, contains}
use Rattle.pb_protocol_packing.proofs.Digits.{same-bool, contains-at, contains-bounds}
use Rattle.pb_protocol_packing.proofs.Lists.{some-is, none-is}

pub truth : (b : Bool) → is_true (of_bool b) ≡ b
truth true = refl
truth false = refl

module _ (N : Spec) (c : Assignment) where
  -- these names have the values n, n + 1 ..
  abbrev pub Placed : ℕ → List Name → Type 0
  Placed n [] = Unit {0}
  Placed n (e ∷ es) = (value N c (Term.Named e) ≡ pos n) × Placed (suc n) es

  -- a kind's values are as many whole numbers from low on
  abbrev pub KindAt : Kind → ℤ → ℕ → Type 0
  KindAt Boolean low size = (low ≡ pos 0) × (size ≡ 2)
  KindAt (Enumeration es) low size = (low ≡ pos 0) × (size ≡ length es) × Placed 0 es
  KindAt Whole low size = Unit {0}

  pub value-number : (z : ℤ) → value N c (number z) ≡ z
  value-number (pos n) = refl
  value-number (negsuc n) = refl

  pub value-either : (x y z : Term) → value N c (either x y z) ≡ (if is_true (value N c x) then value N c y else value N c z)
  unfolding named_function
  value-either x y z = refl

  value-if : (b : Bool) (x y z : Term) → value N c x ≡ of_bool b → value N c (either x y z) ≡ (if b then value N c y else value N c z)
  value-if b x y z e = value-either x y z ∙ ap (λ b. if b then value N c y else value N c z) (ap is_true e ∙ truth b)

  equal : (v w : Value) → v ≡ w → int_eq v w ≡ true
  equal v w e = (Decides-int_eq v w).1 e

  differ : (v w : Value) → (v ≡ w → ⊥) → int_eq v w ≡ false
  differ v w h = by (int_eq v w) refl
    where
      by : (b : Bool) → int_eq v w ≡ b → b ≡ false
      by true e = absurd (h ((Decides-int_eq v w).0 e))
      by false e = refl

  -- ---- parts of a number

  pub value-divided : (x : Term) (k n : ℕ) → 0 < n → value N c x ≡ pos k → value N c (divided x n) ≡ pos (k / n)
  value-divided x k n positive h = by (nat_eq n 1) refl
    where
      quotient-is : (n : ℕ) → 0 < n → quotient (pos k) (pos n) ≡ pos (k / n)
      quotient-is zero p = absurd (omega arith)
      quotient-is (suc n) p = refl

      by : (b : Bool) → nat_eq n 1 ≡ b → value N c (if b then x else Term.Binary Operator.Div x (Term.Number n)) ≡ pos (k / n)
      by true e = h ∙ sym (ap (λ j. pos (k / j)) ((Decides-eqb n 1).0 e) ∙ ap pos (div-one k))
      by false e = ap (λ v. quotient v (pos n)) h ∙ quotient-is n positive

  pub value-rest : (x : Term) (k n : ℕ) → 0 < n → value N c x ≡ pos k → value N c (rest x n) ≡ pos (k % n)
  value-rest x k n positive h = ap (λ v. remainder v (pos n)) h ∙ remainder-is n positive
    where
      remainder-is : (n : ℕ) → 0 < n → remainder (pos k) (pos n) ≡ pos (k % n)
      remainder-is zero p = absurd (omega arith)
      remainder-is (suc n) p = refl

  pub value-between : (x : Term) (k limit n m : ℕ) → 0 < n → 0 < m → k < limit → value N c x ≡ pos k → value N c (between limit n m x) ≡ pos (k % n / m)
  value-between x k limit n m some positive below h = value-divided (if nat_eq n limit then x else rest x n) (k % n) m positive (by (nat_eq n limit) refl)
    where
      by : (b : Bool) → nat_eq n limit ≡ b → value N c (if b then x else rest x n) ≡ pos (k % n)
      by true e = let same : n ≡ limit = (Decides-eqb n limit).0 e in h ∙ ap pos (sym (mod-eq_of_lt (omega (arith, same, below))))
      by false e = value-rest x k n some h

  pub value-times : (x : Term) (k n : ℕ) → value N c x ≡ pos k → value N c (times x n) ≡ pos (k * n)
  value-times x k n h = by (nat_eq n 1) refl
    where
      by : (b : Bool) → nat_eq n 1 ≡ b → value N c (if b then x else Term.Binary Operator.Times x (Term.Number n)) ≡ pos (k * n)
      by true e = h ∙ ap pos (let one : n ≡ 1 = (Decides-eqb n 1).0 e in sym (ap (λ j. k * j) one ∙ omega arith))
      by false e = ap (λ v. v *ℤ pos n) h

  pub value-scaled : (limit : ℕ) (x : Term) (k n : ℕ) → value N c x ≡ pos k → value N c (scaled limit x n) ≡ pos (k * n)
  value-scaled limit (Term.Number d) k n h = by (nat_lt d limit)
    where
      by : (b : Bool) → value N c (if b then Term.Number (d * n) else times (Term.Number d) n) ≡ pos (k * n)
      by true = let same : d ≡ k = omega (arith, ints, h) in ap (λ j. pos (j * n)) same
      by false = value-times (Term.Number d) k n h
  value-scaled limit x k n h = value-times x k n h

  -- ---- sums

  zero-is : (x : Term) → is_zero x ≡ true → value N c x ≡ pos 0
  zero-is (Term.Number zero) e = refl
  zero-is x e = absurd (true≢false (sym e))

  value-plus : (x y : Term) → value N c (plus x y) ≡ value N c x +ℤ value N c y
  value-plus x y = by (is_zero x) (is_zero y) refl refl
    where
      by : (a b : Bool) → is_zero x ≡ a → is_zero y ≡ b → value N c (if a then y else (if b then x else Term.Binary Operator.Plus x y)) ≡ value N c x +ℤ value N c y
      by true b e h = sym (ap (λ v. v +ℤ value N c y) (zero-is x e) ∙ omega (arith, ints))
      by false true e h = sym (ap (λ v. value N c x +ℤ v) (zero-is y h) ∙ omega (arith, ints))
      by false false e h = refl

  -- the sum of the values of terms
  abbrev pub total : List Term → Value
  total [] = pos 0
  total (x ∷ xs) = value N c x +ℤ total xs

  pub value-plus_all : (x : Term) (xs : List Term) → value N c (plus_all x xs) ≡ value N c x +ℤ total xs
  value-plus_all x [] = omega (arith, ints)
  value-plus_all x (y ∷ ys) =
      value-plus_all (plus x y) ys ∙ ap (λ v. v +ℤ total ys) (value-plus x y)
      ∙ omega (arith, ints)

  -- ---- a variable's value from its number

  value-enumerator_at : (n : ℕ) (es : List Name) (x : Term) (d : ℕ) → Placed n es → d < length es → value N c x ≡ pos (n + d) → value N c (enumerator_at n es x) ≡ pos (n + d)
  value-enumerator_at n [] x d placed below h = h
  value-enumerator_at n (e ∷ []) x zero placed below h = placed.0 ∙ omega (arith, ints)
  value-enumerator_at n (e ∷ []) x (suc d) placed below h = absurd (omega (arith, below))
  value-enumerator_at n (e ∷ f ∷ es) x zero placed below h =
      value-if true (Term.Binary Operator.Equal x (Term.Number n)) (Term.Named e) (enumerator_at (suc n) (f ∷ es) x) (ap of_bool (equal (value N c x) (pos n) (h ∙ omega (arith, ints))))
      ∙ (placed.0 ∙ omega (arith, ints))
  value-enumerator_at n (e ∷ f ∷ es) x (suc d) placed below h =
      value-if false (Term.Binary Operator.Equal x (Term.Number n)) (Term.Named e) (enumerator_at (suc n) (f ∷ es) x)
      (ap of_bool (differ (value N c x) (pos n) (λ same. omega (arith, ints, sym h ∙ same))))
      ∙ (value-enumerator_at (suc n) (f ∷ es) x d placed.1 (omega arith) (h ∙ omega (arith, ints)) ∙ omega (arith, ints))

  value-place_of : (n : ℕ) (es : List Name) (x : Term) (d : ℕ) → Placed n es → d < length es → value N c x ≡ pos (n + d) → value N c (place_of n es x) ≡ pos (n + d)
  value-place_of n [] x d placed below h = h
  value-place_of n (e ∷ []) x zero placed below h = omega (arith, ints)
  value-place_of n (e ∷ []) x (suc d) placed below h = absurd (omega (arith, below))
  value-place_of n (e ∷ f ∷ es) x zero placed below h =
      value-if true (Term.Binary Operator.Equal x (Term.Named e)) (Term.Number n) (place_of (suc n) (f ∷ es) x)
      (ap of_bool (equal (value N c x) (value N c (Term.Named e)) (h ∙ (omega (arith, ints) ∙ sym placed.0))))
      ∙ omega (arith, ints)
  value-place_of n (e ∷ f ∷ es) x (suc d) placed below h =
      value-if false (Term.Binary Operator.Equal x (Term.Named e)) (Term.Number n) (place_of (suc n) (f ∷ es) x)
      (ap of_bool (differ (value N c x) (value N c (Term.Named e)) (λ same. let g : pos (n + suc d) ≡ pos n = sym h ∙ (same ∙ placed.0) in omega (arith, ints))))
      ∙ (value-place_of (suc n) (f ∷ es) x d placed.1 (omega arith) (h ∙ omega (arith, ints)) ∙ omega (arith, ints))

  value-raised : (x : Term) (low : ℤ) (d : ℕ) → value N c x ≡ pos d → value N c (raised x low) ≡ low +ℤ pos d
  value-raised x (pos zero) d h = h ∙ omega (arith, ints)
  value-raised x (pos (suc n)) d h = ap (λ v. v +ℤ pos (suc n)) h ∙ omega (arith, ints)
  value-raised x (negsuc n) d h = ap (λ v. v +ℤ negsuc n) h ∙ omega (arith, ints)

  value-lowered : (x : Term) (low : ℤ) (d : ℕ) → value N c x ≡ low +ℤ pos d → value N c (lowered x low) ≡ pos d
  value-lowered x (pos zero) d h = h ∙ omega (arith, ints)
  value-lowered x (pos (suc n)) d h = ap (λ v. v -ℤ pos (suc n)) h ∙ omega (arith, ints)
  value-lowered x (negsuc n) d h = ap (λ v. v -ℤ negsuc n) h ∙ omega (arith, ints)

  pub value-from_number : (k : Kind) (low : ℤ) (size : ℕ) (x : Term) (d : ℕ) → KindAt k low size → d < size → value N c x ≡ pos d → value N c (from_number k low x) ≡ low +ℤ pos d
  value-from_number Boolean low size x d kind below h =
      ap (λ v. of_bool (int_eq v (pos 1))) h ∙ (by d (omega (arith, kind.1)) ∙ ap (λ l. l +ℤ pos d) (sym kind.0))
    where
      by : (d : ℕ) → d < 2 → of_bool (int_eq (pos d) (pos 1)) ≡ pos 0 +ℤ pos d
      by zero below = refl
      by (suc zero) below = refl
      by (suc (suc d)) below = absurd (omega arith)
  value-from_number (Enumeration es) low size x d kind below h =
      value-enumerator_at 0 es x d kind.2 (omega (arith, kind.1)) (h ∙ omega (arith, ints)) ∙ (omega (arith, ints) ∙ ap (λ l. l +ℤ pos d) (sym kind.0))
  value-from_number Whole low size x d kind below h = value-raised x low d h

  among-is : (n : ℕ) (es : List Name) (y : Name) (i : ℕ) → Placed n es → place_among n es y ≡ Some i → value N c (Term.Named y) ≡ pos i
  among-is n [] y i placed e = none-is i e
  among-is n (x ∷ es) y i placed e = by (same_name x y) refl e (among-is (suc n) es y i placed.1)
    where
      by : (b : Bool) → same_name x y ≡ b → (if b then Some n else place_among (suc n) es y) ≡ Some i
          → (place_among (suc n) es y ≡ Some i → value N c (Term.Named y) ≡ pos i) → value N c (Term.Named y) ≡ pos i
      by true same h next = ap (λ z. value N c (Term.Named z)) (sym (same_text x y (sym same))) ∙ (placed.0 ∙ ap pos (some-is n i h))
      by false same h next = next h

  value-place_or : (es : List Name) (y : Name) (d : ℕ) → Placed 0 es → d < length es → value N c (Term.Named y) ≡ pos d
      → value N c (place_or (place_among 0 es y) (place_of 0 es (Term.Named y))) ≡ pos d
  value-place_or es y d placed below h = by (place_among 0 es y) refl
    where
      by : (o : Option ℕ) → place_among 0 es y ≡ o → value N c (place_or o (place_of 0 es (Term.Named y))) ≡ pos d
      by (Some n) e = sym (among-is 0 es y n placed e) ∙ h
      by None e = value-place_of 0 es (Term.Named y) d placed below (h ∙ omega (arith, ints)) ∙ omega (arith, ints)

  value-place : (es : List Name) (x : Term) (d : ℕ) → Placed 0 es → d < length es → value N c x ≡ pos d → value N c (place_of 0 es x) ≡ pos d
  value-place es x d placed below h = value-place_of 0 es x d placed below (h ∙ omega (arith, ints)) ∙ omega (arith, ints)

  value-place_number : (es : List Name) (x : Term) (d : ℕ) → Placed 0 es → d < length es → value N c x ≡ pos d → value N c (place_number es x) ≡ pos d
  value-place_number es (Term.Named y) d placed below h = value-place_or es y d placed below h
  value-place_number es (Term.Apply f (Terms.Then x (Terms.Then y (Terms.Then z Terms.NoTerms)))) d placed below h =
      by (same_name f (codes "if")) refl (value-place_number es y d placed below) (value-place_number es z d placed below)
    where
      chosen : (b : Bool) → (value N c y ≡ pos d → value N c (place_number es y) ≡ pos d) → (value N c z ≡ pos d → value N c (place_number es z) ≡ pos d) →
          (if b then value N c y else value N c z) ≡ pos d → (if b then value N c (place_number es y) else value N c (place_number es z)) ≡ pos d
      chosen true left right e = left e
      chosen false left right e = right e

      by : (b : Bool) → same_name f (codes "if") ≡ b → (value N c y ≡ pos d → value N c (place_number es y) ≡ pos d) → (value N c z ≡ pos d → value N c (place_number es z) ≡ pos d) →
          value N c (if b then either x (place_number es y) (place_number es z) else place_of 0 es (Term.Apply f (Terms.Then x (Terms.Then y (Terms.Then z Terms.NoTerms))))) ≡ pos d
      by true e left right =
          let same : f ≡ codes "if" = same_text f (codes "if") (sym e) in
          let is : (if is_true (value N c x) then value N c y else value N c z) ≡ pos d =
          sym (value-either x y z) ∙ (ap (λ g. value N c (Term.Apply g (Terms.Then x (Terms.Then y (Terms.Then z Terms.NoTerms))))) (sym same) ∙ h) in
          value-either x (place_number es y) (place_number es z) ∙ chosen (is_true (value N c x)) left right is
      by false e left right = value-place es (Term.Apply f (Terms.Then x (Terms.Then y (Terms.Then z Terms.NoTerms)))) d placed below h
  value-place_number es x d placed below h = value-place es x d placed below h

  value-computed : (k : Kind) (low : ℤ) (size : ℕ) (x : Term) (d : ℕ) → KindAt k low size → d < size → value N c x ≡ low +ℤ pos d → value N c (computed_number k low x) ≡ pos d
  value-computed Boolean low size x d kind below h =
      value-either x (Term.Number 1) (Term.Number 0) ∙ (ap (λ v. if is_true v then pos 1 else pos 0) (h ∙ (ap (λ l. l +ℤ pos d) kind.0)) ∙ by d (omega (arith, kind.1)))
    where
      by : (d : ℕ) → d < 2 → (if is_true (pos 0 +ℤ pos d) then pos 1 else pos 0) ≡ pos d
      by zero below = refl
      by (suc zero) below = refl
      by (suc (suc d)) below = absurd (omega arith)
  value-computed (Enumeration es) low size x d kind below h =
      value-place_number es x d kind.2 (omega (arith, kind.1)) (h ∙ (ap (λ l. l +ℤ pos d) kind.0 ∙ omega (arith, ints)))
  value-computed Whole low size x d kind below h = value-lowered x low d h

  -- a constant has the number that is computed
  constant-is : (k : Kind) (low : ℤ) (size : ℕ) (x : Term) (d : ℕ) (z : ℤ) → KindAt k low size → value N c x ≡ low +ℤ pos d → constant_number k low x ≡ Some z → z ≡ pos d
  constant-is Boolean low size (Term.Truth b) d z kind h e = sym (some-is (of_bool b) z e) ∙ (h ∙ (ap (λ l. l +ℤ pos d) kind.0 ∙ omega (arith, ints)))
  constant-is Whole low size (Term.Number n) d z kind h e = by (nat_lt n (2 ^ 32)) e
    where
      by : (b : Bool) → (if b then Some (pos n -ℤ low) else None) ≡ Some z → z ≡ pos d
      by true same = sym (some-is (pos n -ℤ low) z same) ∙ omega (arith, ints, h)
      by false none = none-is z none
  constant-is k low size x d z kind h e = none-is z e

  pub value-to_number : (k : Kind) (low : ℤ) (size : ℕ) (x : Term) (d : ℕ) → KindAt k low size → d < size → value N c x ≡ low +ℤ pos d → value N c (to_number k low x) ≡ pos d
  value-to_number k low size x d kind below h = by (constant_number k low x) refl
    where
      by : (o : Option ℤ) → constant_number k low x ≡ o → value N c (number_or o (computed_number k low x)) ≡ pos d
      by (Some z) e = value-number z ∙ constant-is k low size x d z kind h e
      by None e = value-computed k low size x d kind below h

  -- ---- comparisons

  -- the digit of an enumeration has the value of its term
  abbrev pub EnumerationIs : Kind → Term → Term → Type 0
  EnumerationIs Boolean t x = Unit {0}
  EnumerationIs (Enumeration es) t x = (value N c t ≡ value N c x) × Placed 0 es
  EnumerationIs Whole t x = Unit {0}

  abbrev pub DigitIs : Option Digit → Term → Type 0
  DigitIs None x = Unit {0}
  DigitIs (Some d) x = EnumerationIs d.kind d.term x

  by-place : (o : Operator) (t x : Term) (es : List Name) (e : Name) → value N c t ≡ value N c x → Placed 0 es →
      value N c (by_place o t (place_among 0 es e) x (Term.Named e)) ≡ binary o (value N c x) (value N c (Term.Named e))
  by-place o t x es e same placed = by (place_among 0 es e) refl
    where
      by : (i : Option ℕ) → place_among 0 es e ≡ i → value N c (by_place o t i x (Term.Named e)) ≡ binary o (value N c x) (value N c (Term.Named e))
      by (Some n) is = ap (λ v. binary o v (pos n)) same ∙ ap (λ v. binary o (value N c x) v) (sym (among-is 0 es e n placed is))
      by None is = refl

  value-by_place : (o : Operator) (k : Kind) (t x y : Term) → EnumerationIs k t x → value N c (by_place o t (compared_place o k y) x y) ≡ binary o (value N c x) (value N c y)
  value-by_place Operator.Equal (Enumeration es) t x (Term.Named e) is = by-place Operator.Equal t x es e is.0 is.1
  value-by_place Operator.NotEqual (Enumeration es) t x (Term.Named e) is = by-place Operator.NotEqual t x es e is.0 is.1
  value-by_place o k t x y is = refl

  pub value-compared : (o : Operator) (d : Option Digit) (x y : Term) → DigitIs d x → value N c (compared o d x y) ≡ binary o (value N c x) (value N c y)
  value-compared o None x y is = refl
  value-compared o (Some d) x y is = value-by_place o d.kind d.term x y is

  -- the digit of a place
  pub digit-at : (k : Kind) (low : ℤ) (size : ℕ) (t : Term) (d : ℕ) → KindAt k low size → d < size → value N c t ≡ pos d → EnumerationIs k t (from_number k low t)
  digit-at Boolean low size t d kind below h = tt
  digit-at (Enumeration es) low size t d kind below h = (h ∙ sym (value-enumerator_at 0 es t d kind.2 (omega (arith, kind.1)) (h ∙ omega (arith, ints)) ∙ omega (arith, ints)), kind.2)
  digit-at Whole low size t d kind below h = tt

  -- ---- tests

  contains-truth : (b : Bool) → contains (numbers_from (pos 0) 2) (of_bool b) ≡ true
  contains-truth true = refl
  contains-truth false = refl

  -- what `if` chooses of two values with P has P
  chosen-has : (P : Value → Type 0) (f : Name) (x y z : Term) → same_name f (codes "if") ≡ true → P (value N c y) → P (value N c z) →
      P (value N c (Term.Apply f (Terms.Then x (Terms.Then y (Terms.Then z Terms.NoTerms)))))
  chosen-has P f x y z same left right =
      subst (λ (g : Name). P (value N c (Term.Apply g (Terms.Then x (Terms.Then y (Terms.Then z Terms.NoTerms)))))) (sym (same_text f (codes "if") (sym same)))
      (subst P (sym (value-either x y z)) (by (is_true (value N c x))))
    where
      by : (b : Bool) → P (if b then value N c y else value N c z)
      by true = left
      by false = right

  truth-operator : (o : Operator) (u v : Value) → gives_truth o ≡ true → contains (numbers_from (pos 0) 2) (binary o u v) ≡ true
  truth-operator Operator.Plus u v e = absurd (true≢false (sym e))
  truth-operator Operator.Minus u v e = absurd (true≢false (sym e))
  truth-operator Operator.Times u v e = absurd (true≢false (sym e))
  truth-operator Operator.Div u v e = absurd (true≢false (sym e))
  truth-operator Operator.Mod u v e = absurd (true≢false (sym e))
  truth-operator o u v e = contains-truth _

  truth-within : (x : Term) → is_truth x ≡ true → contains (numbers_from (pos 0) 2) (value N c x) ≡ true
  truth-within (Term.Truth b) e = contains-truth b
  truth-within (Term.Not x) e = contains-truth _
  truth-within (Term.Binary o x y) e = truth-operator o (value N c x) (value N c y) e
  truth-within (Term.Quantified q xs x) e = contains-truth _
  truth-within (Term.Apply f (Terms.Then x (Terms.Then y (Terms.Then z Terms.NoTerms)))) e =
      let parts = and_parts (same_name f (codes "if")) _ e in
      let both = and_parts (is_truth y) (is_truth z) parts.1 in
      chosen-has (λ (v : Value). contains (numbers_from (pos 0) 2) v ≡ true) f x y z parts.0 (truth-within y both.0) (truth-within z both.1)
  truth-within x e = absurd (true≢false (sym e))

  among-below : (n : ℕ) (es : List Name) (y : Name) (i : ℕ) → place_among n es y ≡ Some i → (d : ℕ) × (d < length es) × (i ≡ n + d)
  among-below n [] y i e = none-is i e
  among-below n (x ∷ es) y i e = by (same_name x y) e (among-below (suc n) es y i)
    where
      by : (b : Bool) → (if b then Some n else place_among (suc n) es y) ≡ Some i → (place_among (suc n) es y ≡ Some i → (d : ℕ) × (d < length es) × (i ≡ suc n + d)) →
          (d : ℕ) × (d < length (x ∷ es)) × (i ≡ n + d)
      by true h next = let same : n ≡ i = some-is n i h in (0, omega arith, omega arith)
      by false h next = let d = next h in (suc d.0, omega (arith, d.1), omega (arith, d.2))

  enumerator-within : (es : List Name) (x : Term) → Placed 0 es → is_enumerator es x ≡ true → contains (numbers_from (pos 0) (length es)) (value N c x) ≡ true
  enumerator-within es (Term.Named y) placed e = by (place_among 0 es y) refl e
    where
      by : (o : Option ℕ) → place_among 0 es y ≡ o → is_some o ≡ true → contains (numbers_from (pos 0) (length es)) (value N c (Term.Named y)) ≡ true
      by None is h = absurd (true≢false (sym h))
      by (Some i) is h =
          let d = among-below 0 es y i is in
          subst (λ (v : Value). contains (numbers_from (pos 0) (length es)) v ≡ true) (omega (arith, ints, d.2) ∙ sym (among-is 0 es y i placed is)) (contains-at (pos 0) (length es) d.0 d.1)
  enumerator-within es (Term.Apply f (Terms.Then x (Terms.Then y (Terms.Then z Terms.NoTerms)))) placed e =
      let parts = and_parts (same_name f (codes "if")) _ e in
      let both = and_parts (is_enumerator es y) (is_enumerator es z) parts.1 in
      chosen-has (λ (v : Value). contains (numbers_from (pos 0) (length es)) v ≡ true) f x y z parts.0 (enumerator-within es y placed both.0) (enumerator-within es z placed both.1)
  enumerator-within es x placed e = absurd (true≢false (sym e))

  -- a kind's carrier, as it is computed
  carrier-is : (low : ℤ) (size n : ℕ) (v : Value) → low ≡ pos 0 → size ≡ n → contains (numbers_from low size) v ≡ contains (numbers_from (pos 0) n) v
  carrier-is low size n v e h = ap (λ l. contains (numbers_from l size) v) e ∙ ap (λ k. contains (numbers_from (pos 0) k) v) h

  pub value-surely : (k : Kind) (low : ℤ) (size : ℕ) (x : Term) → KindAt k low size → is_surely_within k low size x ≡ true → contains (numbers_from low size) (value N c x) ≡ true
  value-surely Boolean low size x kind e = carrier-is low size 2 (value N c x) kind.0 kind.1 ∙ truth-within x e
  value-surely (Enumeration es) low size x kind e = carrier-is low size (length es) (value N c x) kind.0 kind.1 ∙ enumerator-within es x kind.2 e
  value-surely Whole low size (Term.Number n) kind e = contains-bounds low size (pos n) ∙ e
  value-surely Whole low size x kind e = absurd (true≢false (sym e))

  turned : (u v : Value) → int_eq u v ≡ int_eq v u
  turned u v = same-bool (int_eq u v) (int_eq v u) (λ e. equal v u (sym ((Decides-int_eq u v).0 e))) (λ e. equal u v (sym ((Decides-int_eq v u).0 e)))

  or-false : (b : Bool) → (b || false) ≡ b
  or-false true = refl
  or-false false = refl

  value-one_of : (n : ℕ) (es : List Name) (x : Term) → Placed n es → is_true (value N c (is_one_of es x)) ≡ contains (numbers_from (pos n) (length es)) (value N c x)
  value-one_of n [] x placed = refl
  value-one_of n (e ∷ []) x placed =
      let v = value N c x in truth _ ∙ (ap (λ u. int_eq v u) placed.0 ∙ (turned v (pos n) ∙ sym (or-false (int_eq (pos n) v))))
  value-one_of n (e ∷ f ∷ es) x placed =
      let v = value N c x in
      truth _
      ∙ (ap (λ b. b || is_true (value N c (is_one_of (f ∷ es) x))) (truth _ ∙ (ap (λ u. int_eq v u) placed.0 ∙ turned v (pos n)))
      ∙ ap (λ b. int_eq (pos n) v || b) (value-one_of (suc n) (f ∷ es) x placed.1 ∙ ap (λ (z : ℤ). contains (numbers_from z (length (f ∷ es))) v) (next n)))
    where
      next : (n : ℕ) → pos (suc n) ≡ pos n +ℤ pos 1
      next n = omega (arith, ints)

  pub value-test : (k : Kind) (low : ℤ) (size : ℕ) (x : Term) → KindAt k low size → is_true (value N c (test_of k low size x)) ≡ contains (numbers_from low size) (value N c x)
  value-test Boolean low size x kind =
      let v = value N c x in
      truth _
      ∙ (ap (λ b. b || is_true (of_bool (int_eq v (pos 1)))) (truth _ ∙ turned v (pos 0))
      ∙ (ap (λ b. int_eq (pos 0) v || b) (truth _ ∙ (turned v (pos 1) ∙ sym (or-false (int_eq (pos 1) v))))
      ∙ sym (carrier-is low size 2 v kind.0 kind.1)))
  value-test (Enumeration es) low size x kind = value-one_of 0 es x kind.2 ∙ sym (carrier-is low size (length es) (value N c x) kind.0 kind.1)
  value-test Whole low size x kind =
      let v = value N c x in
      truth _
      ∙ (ap (λ b. b && is_true (of_bool (int_lt v (value N c (number (low +ℤ pos size)))))) (truth _ ∙ ap (λ z. int_le z v) (value-number low))
      ∙ (ap (λ b. int_le low v && b) (truth _ ∙ ap (λ z. int_lt v z) (value-number (low +ℤ pos size)))
      ∙ sym (contains-bounds low size v)))
