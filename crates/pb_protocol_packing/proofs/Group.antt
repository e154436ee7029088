-- The number of a group after a step stands for the values that its variables have after the step, and is outside its range where one of them leaves its carrier.
use Rattle.std.proofs.Common.{◌≡◌, ℕ, ◌+◌, ◌*◌, ◌/◌, ◌%◌, ◌<◌, pos, ◌+ℤ◌, Bool, true, false, true≢false, if◌then◌else◌, ◌&&◌, List, [], ◌∷◌, ◌++◌, refl, sym, ap, ◌∙◌, subst, arith}
use Rattle.std.specs.Prelude.{nat_eq, Option, Some, None, is_some}
use Rattle.std.specs.List.{list_all, list_any}
use Rattle.std.proofs.lemmas.Int.{ints}
use Rattle.std.proofs.lemmas.Nat.{div-mul-add, mod-mul-add}
use Rattle.std.proofs.Math.Nat.{mod-eq_of_lt, mul_assoc, one-mul}
use Rattle.std.proofs.lemmas.Bool.{and_parts}
use Rattle.std.proofs.lemmas.Bool.Decides.{Decides-eqb}
use Rattle.pb_base_values.specs.Carrier.{Value, Tuple, at_least_none, numbers_from, contains, is_within}
use Rattle.pb_text_meaning.specs.Syntax.{Name, Variable, Term, Spec}
use Rattle.pb_text_meaning.specs.Value.{Assignment, is_true, value}
use Rattle.pb_model_meaning.specs.Steps.{value_after}
use Rattle.pb_protocol_packing.specs.Numbers.{times, between, scaled, to_number, is_surely_within, test_of}
use Rattle.pb_protocol_packing.specs.Packing.{Member, Joined, capacity, kept, addends_by, addends, number_of, tests_of, all_tests, where_all, joined_term, group_term}
use Rattle.pb_protocol_packing.specs.Apart.{Each, variables_of}
use Rattle.pb_protocol_packing.proofs.Digits.{carriers_at, positive, rest-below, rest-rest, none-between, quotient-parts, quotient-below, made-below, contains-at, contained, contains-end, digits-within}
use Rattle.pb_protocol_packing.proofs.Terms.{KindAt, value-either, value-between, value-times, value-scaled, value-to_number, total, value-plus_all, value-surely, value-test}
use Rattle.pb_protocol_packing.proofs.Lists.{neither, and-assoc}
use Rattle.pb_protocol_packing.specs.Unpacked.{digits}

and-true : (b : Bool) → (b && true) ≡ b
and-true true = refl
and-true false = refl

module _ (N : Spec) (b : Assignment) (new : Name → Option Term) where
  -- the values of variables after a step
  abbrev pub after : List Variable → Tuple → Tuple
  after [] vs = []
  after (x ∷ xs) (v ∷ vs) = value_after (value N b) (new x.name) v ∷ after xs vs
  after (x ∷ xs) [] = []

  abbrev pub KindsAt : List Member → Type 0
  KindsAt ps = Each (λ (p : Member). KindAt N b p.kind p.low p.size) ps

  -- ---- the number

  -- d is the digit afterwards where it was q
  abbrev IsDigitAfter : Option Term → Member → ℕ → ℕ → Type 0
  IsDigitAfter None p q d = q ≡ d
  IsDigitAfter (Some x) p q d = value N b (to_number p.kind p.low x) ≡ pos d

  digit-after : (o : Option Term) (p : Member) (q : ℕ) → KindAt N b p.kind p.low p.size → contains (numbers_from p.low p.size) (value_after (value N b) o (p.low +ℤ pos q)) ≡ true →
      (d : ℕ) × IsDigitAfter o p q d × (d < p.size) × (value_after (value N b) o (p.low +ℤ pos q) ≡ p.low +ℤ pos d)
  digit-after (Some x) p q kind e =
      let g = contained p.low p.size (value N b x) e in (g.0, value-to_number N b p.kind p.low p.size x g.0 kind g.1 g.2, g.1, g.2)
  digit-after None p q kind e =
      let g = contained p.low p.size (p.low +ℤ pos q) e in (g.0, omega (arith, ints, g.2), g.1, g.2)

  module _ (limit : ℕ) (t : Term) (k : ℕ) (is : value N b t ≡ pos k) (below : k < limit) where
    value-kept : (n m : ℕ) → 0 < n → 0 < m → value N b (kept limit n m t) ≡ pos (k % n / m * m)
    value-kept n m some more = by (nat_eq n m) refl
      where
        by : (c : Bool) → nat_eq n m ≡ c → value N b (if c then Term.Number 0 else times (between limit n m t) m) ≡ pos (k % n / m * m)
        by true e = ap pos (sym (ap (λ i. k % i / m * m) ((Decides-eqb n m).0 e) ∙ none-between k m more))
        by false e = value-times N b (between limit n m t) (k % n / m) m (value-between N b t k limit n m some more below is)

    -- the terms add what stays in front of these variables, of the digits that count less than n, and the number of these afterwards
    abbrev Adds : ℕ → List Member → List Term → Type 0
    Adds n ps xs =
        (e : ℕ) × (total N b xs ≡ pos (k % n / capacity ps * capacity ps + e)) × (e < capacity ps) × (digits ps e ≡ after (variables_of ps) (digits ps (k % capacity ps)))

    module _ (n : ℕ) (p : Member) (ps : List Member) (some : 0 < n) (wide : 0 < p.size * capacity ps) (inside : k % n % (p.size * capacity ps) ≡ k % (p.size * capacity ps)) where
      abbrev c : ℕ
      c = capacity ps

      abbrev w : ℕ
      w = p.size * capacity ps

      -- the digit before
      abbrev q : ℕ
      q = k % w / c

      more : 0 < c
      more = positive 0 p.size c wide

      -- whether the variable stays or gets a term
      adds : (o : Option Term) (xs : List Term) (d e : ℕ) → d < p.size → e < c → value_after (value N b) o (p.low +ℤ pos q) ≡ p.low +ℤ pos d →
          digits ps e ≡ after (variables_of ps) (digits ps (k % c)) → total N b xs ≡ pos (k % n / w * w + (d * c + e)) →
          (i : ℕ) × (total N b xs ≡ pos (k % n / w * w + i)) × (i < w) ×
          (digits (p ∷ ps) i ≡ value_after (value N b) o (p.low +ℤ pos q) ∷ after (variables_of ps) (digits ps (k % w % c)))
      adds o xs d e small under is others sum = (
        d * c + e,
        sum,
        made-below p.size c d e small under,
        ap (λ i. (p.low +ℤ pos i) ∷ digits ps ((d * c + e) % c)) (div-mul-add d c e under)
            ∙ (ap (λ i. (p.low +ℤ pos d) ∷ digits ps i) (mod-mul-add d c e under)
            ∙ (ap (λ v. v ∷ digits ps e) (sym is)
            ∙ ap (λ vs. value_after (value N b) o (p.low +ℤ pos q) ∷ vs) (others ∙ ap (λ i. after (variables_of ps) (digits ps i)) (sym (rest-rest k p.size c))))),
      )

      addends-by : (o : Option Term) (d : ℕ) → IsDigitAfter o p q d → d < p.size → value_after (value N b) o (p.low +ℤ pos q) ≡ p.low +ℤ pos d →
          Adds n ps (addends new limit t n ps) → Adds c ps (addends new limit t c ps) →
          (i : ℕ) × (total N b (addends_by o limit t n p c (λ m. addends new limit t m ps)) ≡ pos (k % n / w * w + i)) × (i < w) ×
          (digits (p ∷ ps) i ≡ value_after (value N b) o (p.low +ℤ pos q) ∷ after (variables_of ps) (digits ps (k % w % c)))
      addends-by None d is small same stays ends =
          let front : k % n / c * c ≡ k % n / w * w + d * c =
          quotient-parts (k % n) p.size c more ∙ ap (λ i. k % n / w * w + i / c * c) inside ∙ ap (λ i. k % n / w * w + i * c) is in
          adds None (addends new limit t n ps) d stays.0 small stays.2 same stays.3 (stays.1 ∙ ap pos (omega (arith, front)))
      addends-by (Some x) d is small same stays ends =
          let xs = addends_by (Some x) limit t n p c (λ m. addends new limit t m ps) in
          let none = none-between k c more in
          adds (Some x) xs d ends.0 small ends.2 same ends.3
          (ap (λ v. v +ℤ (value N b (scaled p.size (to_number p.kind p.low x) c) +ℤ total N b (addends new limit t c ps))) (value-kept n w some wide)
          ∙ ap (λ v. pos (k % n / w * w) +ℤ (v +ℤ total N b (addends new limit t c ps))) (value-scaled N b p.size (to_number p.kind p.low x) d c is)
          ∙ ap (λ v. pos (k % n / w * w) +ℤ (pos (d * c) +ℤ v)) ends.1
          ∙ omega (arith, ints, none))

    addends-add : (j : ℕ) (ps : List Member) → KindsAt ps → 0 < j * capacity ps → is_within (carriers_at ps) (after (variables_of ps) (digits ps (k % capacity ps))) ≡ true →
        Adds (j * capacity ps) ps (addends new limit t (j * capacity ps) ps)
    addends-add j [] kinds some within = (0, ap (λ v. v +ℤ pos 0) (value-kept (j * 1) 1 some (omega arith)) ∙ omega (arith, ints), omega arith, refl)
    addends-add j (p ∷ ps) kinds some within =
        let c = capacity ps in
        let w = p.size * c in
        let wide : 0 < w = positive 0 j w some in
        let more : 0 < c = positive 0 p.size c wide in
        let parts = and_parts _ _ within in
        let d = digit-after (new p.variable.name) p (k % w / c) kinds.0 parts.0 in
        let behind = subst (λ i. is_within (carriers_at ps) (after (variables_of ps) (digits ps i)) ≡ true) (rest-rest k p.size c) parts.1 in
        let wider : 0 < j * p.size * c = omega (arith, mul_assoc j p.size c, some) in
        let stays : Adds (j * w) ps (addends new limit t (j * w) ps) =
        subst (λ i. Adds i ps (addends new limit t i ps)) (mul_assoc j p.size c) (addends-add (j * p.size) ps kinds.1 wider behind) in
        let ends : Adds c ps (addends new limit t c ps) = subst (λ i. Adds i ps (addends new limit t i ps)) (one-mul c) (addends-add 1 ps kinds.1 (omega (arith, more)) behind) in
        addends-by (j * w) p ps some wide (rest-rest k j w) (new p.variable.name) d.0 d.1 d.2 d.3 stays ends

  -- x has the number of the values after the step
  abbrev Made : Term → List Member → ℕ → Type 0
  Made x ps k = (e : ℕ) × (value N b x ≡ pos e) × (e < capacity ps) × (digits ps e ≡ after (variables_of ps) (digits ps k))

  number-of : (ps : List Member) (t : Term) (k : ℕ) → KindsAt ps → value N b t ≡ pos k → k < capacity ps →
      is_within (carriers_at ps) (after (variables_of ps) (digits ps k)) ≡ true → Made (number_of new t ps) ps k
  number-of ps t k kinds h below within =
      let c = capacity ps in
      let whole : k % c ≡ k = mod-eq_of_lt below in
      let xs = addends new c t c ps in
      let adds : Adds c t k h below c ps xs =
      subst (λ i. Adds c t k h below i ps (addends new c t i ps)) (one-mul c)
      (addends-add c t k h below 1 ps kinds (omega (arith, below)) (subst (λ i. is_within (carriers_at ps) (after (variables_of ps) (digits ps i)) ≡ true) (sym whole) within)) in
      let none = none-between k c (omega (arith, below)) in (
        adds.0,
        value-plus_all N b (Term.Number 0) xs ∙ ap (λ v. pos 0 +ℤ v) adds.1 ∙ omega (arith, ints, none),
        adds.2,
        adds.3 ∙ ap (λ i. after (variables_of ps) (digits ps i)) whole,
      )

  -- ---- the tests

  abbrev holds : List Term → Bool
  holds ts = list_all (λ t. is_true (value N b t)) ts

  holds-append : (ts us : List Term) → holds (ts ++ us) ≡ (holds ts && holds us)
  holds-append [] us = refl
  holds-append (t ∷ ts) us = ap (λ c. is_true (value N b t) && c) (holds-append ts us) ∙ and-assoc (is_true (value N b t)) (holds ts) (holds us)

  where-all : (ts : List Term) (x y : Term) → value N b (where_all ts x y) ≡ (if holds ts then value N b x else value N b y)
  where-all [] x y = refl
  where-all (t ∷ ts) x y = value-either N b t (where_all ts x y) y ∙ by (where-all ts x y) (is_true (value N b t))
    where
      by : value N b (where_all ts x y) ≡ (if holds ts then value N b x else value N b y) →
          (c : Bool) → (if c then value N b (where_all ts x y) else value N b y) ≡ (if c && holds ts then value N b x else value N b y)
      by same true = same
      by same false = refl

  test-place : (p : Member) (o : Option Term) (q : ℕ) → KindAt N b p.kind p.low p.size → q < p.size
      → holds (tests_of o p) ≡ contains (numbers_from p.low p.size) (value_after (value N b) o (p.low +ℤ pos q))
  test-place p None q kind below = sym (contains-at p.low p.size q below)
  test-place p (Some x) q kind below = by (is_surely_within p.kind p.low p.size x) refl
    where
      by : (c : Bool) → is_surely_within p.kind p.low p.size x ≡ c → holds (if c then [] else (test_of p.kind p.low p.size x ∷ [])) ≡ contains (numbers_from p.low p.size) (value N b x)
      by true e = sym (value-surely N b p.kind p.low p.size x kind e)
      by false e = and-true _ ∙ value-test N b p.kind p.low p.size x kind

  all-tests : (ps : List Member) (k : ℕ) → k < capacity ps → KindsAt ps → holds (all_tests new ps) ≡ is_within (carriers_at ps) (after (variables_of ps) (digits ps k))
  all-tests [] k below kinds = refl
  all-tests (p ∷ ps) k below kinds =
      let q = k / capacity ps in
      holds-append (tests_of (new p.variable.name) p) (all_tests new ps)
      ∙ (ap (λ c. c && holds (all_tests new ps)) (test-place p (new p.variable.name) q kinds.0 (quotient-below k p.size (capacity ps) below))
      ∙ ap (λ c. contains (numbers_from p.low p.size) (value_after (value N b) (new p.variable.name) (p.low +ℤ pos q))
      && c) (all-tests ps (k % capacity ps) (rest-below k p.size (capacity ps) below) kinds.1))

  -- ---- the group

  -- v is within the range where all values after the step are in their carriers, and then stands for them
  abbrev pub SaysAfter : List Member → ℕ → Value → Type 0
  SaysAfter ps k v =
      (contains (numbers_from (pos 0) (capacity ps)) v ≡ is_within (carriers_at ps) (after (variables_of ps) (digits ps k))) ×
      (contains (numbers_from (pos 0) (capacity ps)) v ≡ true → digits ps (at_least_none v) ≡ after (variables_of ps) (digits ps k))

  contains-below : (n e : ℕ) → e < n → contains (numbers_from (pos 0) n) (pos e) ≡ true
  contains-below n e below = subst (λ (v : Value). contains (numbers_from (pos 0) n) v ≡ true) (omega (arith, ints)) (contains-at (pos 0) n e below)

  pub touched : (ps : List Member) (t : Term) (k : ℕ) → KindsAt ps → value N b t ≡ pos k → k < capacity ps → SaysAfter ps k (value N b (joined_term new t ps))
  touched ps t k kinds h below =
      subst (SaysAfter ps k) (sym (where-all (all_tests new ps) (number_of new t ps) (Term.Number (capacity ps))))
      (by (holds (all_tests new ps)) (all-tests ps k below kinds))
    where
      by : (c : Bool) → c ≡ is_within (carriers_at ps) (after (variables_of ps) (digits ps k)) → SaysAfter ps k (if c then value N b (number_of new t ps) else pos (capacity ps))
      by true e =
          let made = number-of ps t k kinds h below (sym e) in
          subst (SaysAfter ps k) (sym made.1) (contains-below (capacity ps) made.0 made.2 ∙ e, (λ c. made.3))
      by false e = (contains-end (capacity ps) ∙ e, (λ c. absurd (true≢false (sym c ∙ contains-end (capacity ps)))))

  value-none : (o : Option Term) (v : Value) → is_some o ≡ false → value_after (value N b) o v ≡ v
  value-none None v e = refl
  value-none (Some x) v e = absurd (true≢false e)

  after-none : (ps : List Member) (k : ℕ) → list_any (λ (p : Member). is_some (new p.variable.name)) ps ≡ false → after (variables_of ps) (digits ps k) ≡ digits ps k
  after-none [] k e = refl
  after-none (p ∷ ps) k e =
      let none = neither (is_some (new p.variable.name)) _ e in
      ap (λ (v : Value). v ∷ after (variables_of ps) (digits ps (k % capacity ps))) (value-none (new p.variable.name) (p.low +ℤ pos (k / capacity ps)) none.0)
      ∙ ap (λ (vs : Tuple). (p.low +ℤ pos (k / capacity ps)) ∷ vs) (after-none ps (k % capacity ps) none.1)

  pub says-after : (x : Variable) (ps : List Member) (k : ℕ) → KindsAt ps → value N b (Term.Named x.name) ≡ pos k → k < capacity ps →
      SaysAfter ps k (value_after (value N b) (group_term new (Joined x ps)) (pos k))
  says-after x ps k kinds h below = by (list_any (λ (p : Member). is_some (new p.variable.name)) ps) refl
    where
      by : (c : Bool) → list_any (λ (p : Member). is_some (new p.variable.name)) ps ≡ c
          → SaysAfter ps k (value_after (value N b) (if c then Some (joined_term new (Term.Named x.name) ps) else None) (pos k))
      by true e = touched ps (Term.Named x.name) k kinds h below
      by false e =
          let same = after-none ps k e in
          (contains-below (capacity ps) k below ∙ sym (ap (is_within (carriers_at ps)) same ∙ digits-within ps k below), (λ c. sym same))
