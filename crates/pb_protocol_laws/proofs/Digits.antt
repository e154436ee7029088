-- Terms in which digits stand for names have words.
use Rattle.std.proofs.Common.{◌≡◌, ℕ, zero, suc, ◌+◌, ◌*◌, ◌≤◌, le_trans, le_of_lt, mul-le-mul_right, Bool, true, false, if◌then◌else◌, List, [], ◌∷◌, length, refl, arith}
use Rattle.std.specs.Prelude.{ℤ, pos, negsuc, ◌+ℤ◌, ◌-ℤ◌, ◌≤ℤ◌, Option, Some, None, codes, nat_eq, nat_lt, ◌^◌}
use Rattle.std.proofs.lemmas.Bool.{ltb-true}
use Rattle.std.proofs.lemmas.Bool.Decides.{nat_tests}
use Rattle.std.proofs.lemmas.Int.{ints}
use Rattle.pb_base_values.specs.Carrier.{of_bool}
use Rattle.pb_text_lexer.specs.Lexing.{largest_number}
use Rattle.pb_text_meaning.specs.Syntax.{Name, same_name, Variable, Operator, Term, Terms}
use Rattle.pb_text_printer.specs.Sayable.{Each}
use Rattle.pb_model_meaning.specs.Syntax.{Formula}
use Rattle.pb_model_spelling.specs.Writable.{IsWord, TermWritable, AllWritable, ModalWritable}
use Rattle.pb_protocol_packing.specs.Numbers.{Kind, Boolean, Enumeration, Whole, number, times, divided, rest, raised, lowered, either, enumerator_at, place_of, from_number, place_among, place_or, place_number, computed_number, constant_number, number_or, to_number, between, scaled, is_zero, plus, plus_all, is_one_of, test_of}
use Rattle.pb_protocol_packing.specs.Said.{Digit, Scope, digit_for, term_for, hidden, compared_place, by_place, compared, digit_in, said, all_said}
use Rattle.pb_protocol_packing.specs.Packing.{formula_said}
use Rattle.pb_protocol_laws.proofs.Spelled.{IsWritableNumber}
use Rattle.pb_protocol_laws.proofs.Unfolded.{if-word}

-- ---- numbers

pub number-writable : (v : ℤ) → IsWritableNumber v → TermWritable (number v)
number-writable (pos n) h = let high = h.1 in omega (arith, ints)
number-writable (negsuc n) h = let low = h.0 in omega (arith, ints)

-- the lowest value of a carrier
abbrev pub IsLow : ℤ → Type 0
IsLow v = (negsuc 2147483647 ≤ℤ v) × (v ≤ℤ pos 2147483647)

pub times-writable : (x : Term) (n : ℕ) → TermWritable x → n ≤ largest_number → TermWritable (times x n)
times-writable x n h k = by (nat_eq n 1)
  where
    by : (b : Bool) → TermWritable (if b then x else Term.Binary Operator.Times x (Term.Number n))
    by true = h
    by false = (h, k)

divided-writable : (x : Term) (n : ℕ) → TermWritable x → n ≤ largest_number → TermWritable (divided x n)
divided-writable x n h k = by (nat_eq n 1)
  where
    by : (b : Bool) → TermWritable (if b then x else Term.Binary Operator.Div x (Term.Number n))
    by true = h
    by false = (h, k)

rest-writable : (x : Term) (n : ℕ) → TermWritable x → n ≤ largest_number → TermWritable (rest x n)
rest-writable x n h k = (h, k)

pub between-writable : (limit n m : ℕ) (x : Term) → TermWritable x → n ≤ largest_number → m ≤ largest_number → TermWritable (between limit n m x)
between-writable limit n m x h k l = divided-writable (if nat_eq n limit then x else rest x n) m (by (nat_eq n limit)) l
  where
    by : (b : Bool) → TermWritable (if b then x else rest x n)
    by true = h
    by false = rest-writable x n h k

-- a digit below a limit, times what it counts
pub scaled-writable : (limit : ℕ) (x : Term) (n : ℕ) → TermWritable x → n ≤ largest_number → limit * n ≤ largest_number → TermWritable (scaled limit x n)
scaled-writable limit (Term.Number d) n h k most = by (nat_lt d limit) refl
  where
    by : (b : Bool) → nat_lt d limit ≡ b → TermWritable (if b then Term.Number (d * n) else times (Term.Number d) n)
    by true e = le_trans (mul-le-mul_right n (le_of_lt (ltb-true d limit e))) most
    by false e = times-writable (Term.Number d) n h k
scaled-writable limit x n h k most = times-writable x n h k

plus-writable : (x y : Term) → TermWritable x → TermWritable y → TermWritable (plus x y)
plus-writable x y h k = by (is_zero x) (is_zero y)
  where
    by : (a b : Bool) → TermWritable (if a then y else (if b then x else Term.Binary Operator.Plus x y))
    by true b = k
    by false true = h
    by false false = (h, k)

pub plus-all-writable : (x : Term) (ys : List Term) → TermWritable x → Each TermWritable ys → TermWritable (plus_all x ys)
plus-all-writable x [] h k = h
plus-all-writable x (y ∷ ys) h k = plus-all-writable (plus x y) ys (plus-writable x y h k.0) k.1

low-writable : (v : ℤ) → IsLow v → TermWritable (number v)
low-writable v h = let a = h.0 in let b = h.1 in number-writable v (omega (arith, ints), omega (arith, ints))

raised-writable : (x : Term) (low : ℤ) → TermWritable x → IsLow low → TermWritable (raised x low)
raised-writable x (pos zero) h k = h
raised-writable x (pos (suc n)) h k = (h, low-writable (pos (suc n)) k)
raised-writable x (negsuc n) h k = (h, low-writable (negsuc n) k)

lowered-writable : (x : Term) (low : ℤ) → TermWritable x → IsLow low → TermWritable (lowered x low)
lowered-writable x (pos zero) h k = h
lowered-writable x (pos (suc n)) h k = (h, low-writable (pos (suc n)) k)
lowered-writable x (negsuc n) h k = (h, low-writable (negsuc n) k)

pub either-writable : (x y z : Term) → TermWritable x → TermWritable y → TermWritable z → TermWritable (either x y z)
either-writable x y z h k l = (if-word, (h, (k, (l, tt))))

-- ---- enumerators

-- so few that their places are numbers that a text may write
abbrev pub KindWritable : Kind → Type 0
KindWritable Boolean = Unit {0}
KindWritable (Enumeration es) = Each IsWord es × (length es ≤ largest_number)
KindWritable Whole = Unit {0}

enumerator-at : (n : ℕ) (es : List Name) (x : Term) → Each IsWord es → n + length es ≤ largest_number → TermWritable x → TermWritable (enumerator_at n es x)
enumerator-at n [] x w few h = h
enumerator-at n (e ∷ []) x w few h = w.0
enumerator-at n (e ∷ f ∷ es) x w few h =
    either-writable (Term.Binary Operator.Equal x (Term.Number n)) (Term.Named e) (enumerator_at (suc n) (f ∷ es) x)
    (h, omega arith) w.0 (enumerator-at (suc n) (f ∷ es) x w.1 (omega arith) h)

place-writable : (n : ℕ) (es : List Name) (x : Term) → Each IsWord es → n + length es ≤ largest_number → TermWritable x → TermWritable (place_of n es x)
place-writable n [] x w few h = h
place-writable n (e ∷ []) x w few h = let most : n ≤ largest_number = omega arith in most
place-writable n (e ∷ f ∷ es) x w few h =
    either-writable (Term.Binary Operator.Equal x (Term.Named e)) (Term.Number n) (place_of (suc n) (f ∷ es) x)
    (h, w.0) (let most : n ≤ largest_number = omega arith in most) (place-writable (suc n) (f ∷ es) x w.1 (omega arith) h)

abbrev FoundPlace : Option ℕ → Type 0
FoundPlace None = Unit {0}
FoundPlace (Some n) = n ≤ largest_number

place-found : (n : ℕ) (es : List Name) (x : Name) → n + length es ≤ largest_number → FoundPlace (place_among n es x)
place-found n [] x few = tt
place-found n (e ∷ es) x few = by (same_name e x) (omega arith) (place-found (suc n) es x (omega arith))
  where
    by : (b : Bool) → n ≤ largest_number → FoundPlace (place_among (suc n) es x) → FoundPlace (if b then Some n else place_among (suc n) es x)
    by true here later = here
    by false here later = later

place-or : (o : Option ℕ) (x : Term) → FoundPlace o → TermWritable x → TermWritable (place_or o x)
place-or (Some n) x k h = k
place-or None x k h = h

place-number : (es : List Name) (x : Term) → Each IsWord es → length es ≤ largest_number → TermWritable x → TermWritable (place_number es x)
place-number es (Term.Named x) w few h =
    place-or (place_among 0 es x) (place_of 0 es (Term.Named x)) (place-found 0 es x (omega arith)) (place-writable 0 es (Term.Named x) w (omega arith) h)
place-number es (Term.Apply f (Terms.Then x (Terms.Then y (Terms.Then z Terms.NoTerms)))) w few h =
    by (same_name f (codes "if")) (place-number es y w few h.1.1.0) (place-number es z w few h.1.1.1.0)
  where
    by : (b : Bool) → TermWritable (place_number es y) → TermWritable (place_number es z) →
        TermWritable (if b then either x (place_number es y) (place_number es z) else place_of 0 es (Term.Apply f (Terms.Then x (Terms.Then y (Terms.Then z Terms.NoTerms)))))
    by true k l = either-writable x (place_number es y) (place_number es z) h.1.0 k l
    by false k l = place-writable 0 es (Term.Apply f (Terms.Then x (Terms.Then y (Terms.Then z Terms.NoTerms)))) w (omega arith) h
place-number es x w few h = place-writable 0 es _ w (omega arith) h

-- ---- numbers of values, and back

pub from-number : (k : Kind) (low : ℤ) (x : Term) → KindWritable k → IsLow low → TermWritable x → TermWritable (from_number k low x)
from-number Boolean low x w l h = let one : 1 ≤ largest_number = omega arith in (h, one)
from-number (Enumeration es) low x w l h = enumerator-at 0 es x w.0 (let few = w.1 in omega arith) h
from-number Whole low x w l h = raised-writable x low h l

abbrev FoundNumber : Option ℤ → Type 0
FoundNumber None = Unit {0}
FoundNumber (Some v) = IsWritableNumber v

bool-found : (b : Bool) → IsWritableNumber (of_bool b)
bool-found true = (omega (arith, ints), omega (arith, ints))
bool-found false = (omega (arith, ints), omega (arith, ints))

constant-found : (k : Kind) (low : ℤ) (x : Term) → IsLow low → FoundNumber (constant_number k low x)
constant-found Boolean low (Term.Truth b) l = bool-found b
constant-found Whole low (Term.Number n) l = by (nat_lt n (2 ^ 32)) refl
  where
    by : (b : Bool) → nat_lt n (2 ^ 32) ≡ b → FoundNumber (if b then Some (pos n -ℤ low) else None)
    by true e =
        let less : n ≤ 4294967296 = grind (arith, nat_tests) in let a = l.0 in let b = l.1 in
        (omega (arith, ints), omega (arith, ints))
    by false e = tt
constant-found k low x l = tt

number-or : (o : Option ℤ) (x : Term) → FoundNumber o → TermWritable x → TermWritable (number_or o x)
number-or (Some v) x k h = number-writable v k
number-or None x k h = h

computed-number : (k : Kind) (low : ℤ) (x : Term) → KindWritable k → IsLow low → TermWritable x → TermWritable (computed_number k low x)
computed-number Boolean low x w l h =
    let one : 1 ≤ largest_number = omega arith in let none : 0 ≤ largest_number = omega arith in
    either-writable x (Term.Number 1) (Term.Number 0) h one none
computed-number (Enumeration es) low x w l h = place-number es x w.0 w.1 h
computed-number Whole low x w l h = lowered-writable x low h l

pub to-number : (k : Kind) (low : ℤ) (x : Term) → KindWritable k → IsLow low → TermWritable x → TermWritable (to_number k low x)
to-number k low x w l h = number-or (constant_number k low x) (computed_number k low x) (constant-found k low x l) (computed-number k low x w l h)

one-of : (es : List Name) (x : Term) → Each IsWord es → TermWritable x → TermWritable (is_one_of es x)
one-of [] x w h = tt
one-of (e ∷ []) x w h = (h, w.0)
one-of (e ∷ f ∷ es) x w h = ((h, w.0), one-of (f ∷ es) x w.1 h)

pub test-writable : (k : Kind) (low : ℤ) (size : ℕ) (x : Term) → KindWritable k → IsLow low → size ≤ 2147483648 → TermWritable x → TermWritable (test_of k low size x)
test-writable Boolean low size x w l few h = ((h, tt), (h, tt))
test-writable (Enumeration es) low size x w l few h = one-of es x w.0 h
test-writable Whole low size x w l few h =
    let a = l.0 in let b = l.1 in
    ((low-writable low l, h), (h, number-writable (low +ℤ pos size) (omega (arith, ints), omega (arith, ints))))

-- ---- terms

pub record DigitWritable (d : Digit) : Type 0 where
  pub kind : KindWritable d.kind
  pub low : IsLow d.low
  pub term : TermWritable d.term

abbrev pub FoundDigit : Option Digit → Type 0
FoundDigit None = Unit {0}
FoundDigit (Some d) = DigitWritable d

abbrev BoundDigit : (Name × Option Digit) → Type 0
BoundDigit b = FoundDigit b.1

abbrev pub DigitsWritable : Scope → Type 0
DigitsWritable σ = Each BoundDigit σ

digit-found : (σ : Scope) (x : Name) → DigitsWritable σ → FoundDigit (digit_for σ x)
digit-found [] x h = tt
digit-found ((y, d) ∷ σ) x h = by (same_name y x) (digit-found σ x h.1)
  where
    by : (b : Bool) → FoundDigit (digit_for σ x) → FoundDigit (if b then d else digit_for σ x)
    by true later = h.0
    by false later = later

pub hidden-writable : (xs : List Variable) (σ : Scope) → DigitsWritable σ → DigitsWritable (hidden xs σ)
hidden-writable [] σ h = h
hidden-writable (x ∷ xs) σ h = hidden-writable xs ((x.name, None) ∷ σ) (tt, h)

term-for : (o : Option Digit) (x : Name) → FoundDigit o → IsWord x → TermWritable (term_for o x)
term-for None x d w = w
term-for (Some d) x k w = from-number d.kind d.low d.term k.kind k.low k.term

equal-place : (k : Kind) (y : Term) → KindWritable k → FoundPlace (compared_place Operator.Equal k y)
equal-place (Enumeration es) (Term.Named e) w = place-found 0 es e (let few = w.1 in omega arith)
equal-place k y w = tt

unequal-place : (k : Kind) (y : Term) → KindWritable k → FoundPlace (compared_place Operator.NotEqual k y)
unequal-place (Enumeration es) (Term.Named e) w = place-found 0 es e (let few = w.1 in omega arith)
unequal-place k y w = tt

compared-place : (o : Operator) (k : Kind) (y : Term) → KindWritable k → FoundPlace (compared_place o k y)
compared-place Operator.Equal k y w = equal-place k y w
compared-place Operator.NotEqual k y w = unequal-place k y w
compared-place o k y w = tt

by-place : (o : Operator) (t : Term) (p : Option ℕ) (x y : Term) → FoundPlace p → TermWritable t → TermWritable x → TermWritable y → TermWritable (by_place o t p x y)
by-place o t (Some n) x y p h k l = (h, p)
by-place o t None x y p h k l = (k, l)

compared-writable : (o : Operator) (d : Option Digit) (x y : Term) → FoundDigit d → TermWritable x → TermWritable y → TermWritable (compared o d x y)
compared-writable o (Some d) x y k h l = by-place o d.term (compared_place o d.kind y) x y (compared-place o d.kind y k.kind) k.term h l
compared-writable o None x y k h l = (h, l)

digit-in : (σ : Scope) (x : Term) → DigitsWritable σ → FoundDigit (digit_in σ x)
digit-in σ (Term.Named x) h = digit-found σ x h
digit-in σ x h = tt

mutual
  pub said-writable : (x : Term) (σ : Scope) → DigitsWritable σ → TermWritable x → TermWritable (said σ x)
  said-writable (Term.Truth b) σ k h = tt
  said-writable (Term.Number n) σ k h = h
  said-writable (Term.Named x) σ k h = term-for (digit_for σ x) x (digit-found σ x k) h
  said-writable (Term.Not x) σ k h = said-writable x σ k h
  said-writable (Term.Negative x) σ k h = said-writable x σ k h
  said-writable (Term.Binary o x y) σ k h =
      compared-writable o (digit_in σ x) (said σ x) (said σ y) (digit-in σ x k) (said-writable x σ k h.0) (said-writable y σ k h.1)
  said-writable (Term.Apply f Terms.NoTerms) σ k h = absurd h.1
  said-writable (Term.Apply f (Terms.Then x xs)) σ k h = (h.0, (said-writable x σ k h.1.0, all-said-writable xs σ k h.1.1))
  said-writable (Term.Quantified q xs x) σ k h = (h.0, said-writable x (hidden xs σ) (hidden-writable xs σ k) h.1)

  pub all-said-writable : (xs : Terms) (σ : Scope) → DigitsWritable σ → AllWritable xs → AllWritable (all_said σ xs)
  all-said-writable Terms.NoTerms σ k h = tt
  all-said-writable (Terms.Then x xs) σ k h = (said-writable x σ k h.0, all-said-writable xs σ k h.1)

pub formula-writable : (f : Formula) (σ : Scope) → DigitsWritable σ → ModalWritable f → ModalWritable (formula_said σ f)
formula-writable (Formula.Truth b) σ k h = tt
formula-writable (Formula.Data x) σ k h = said-writable x σ k h
formula-writable (Formula.Named X) σ k h = tt
formula-writable (Formula.Not f) σ k h = formula-writable f σ k h
formula-writable (Formula.And f g) σ k h = (formula-writable f σ k h.0, formula-writable g σ k h.1)
formula-writable (Formula.Or f g) σ k h = (formula-writable f σ k h.0, formula-writable g σ k h.1)
formula-writable (Formula.Implies f g) σ k h = (formula-writable f σ k h.0, formula-writable g σ k h.1)
formula-writable (Formula.Box A f) σ k h = formula-writable f σ k h
formula-writable (Formula.Diamond A f) σ k h = formula-writable f σ k h
formula-writable (Formula.Fixpoint sign X f) σ k h = (h.0, formula-writable f σ k h.1)
