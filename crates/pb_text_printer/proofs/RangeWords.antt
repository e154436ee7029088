-- The words of a range line are found in it as they were written.
use Rattle.std.proofs.Common.{◌≡◌, ◌≤◌, ◌<◌, ℕ, suc, ◌+◌, ◌^◌, Bool, true, false, cond, not, ◌&&◌, ◌==◌, eqb, List, [], ◌∷◌, ◌++◌, length, take, drop, decimal, refl, sym, ap, ◌∙◌, subst, arith, nat_lt, Some, None, ℤ, pos, negsuc, eq-eqb}
use Rattle.std.specs.Prelude.{int_le}
use Rattle.std.specs.Fmt.{signed_decimal}
use Rattle.std.specs.Char.{is_ascii_digit}
use Rattle.std.specs.Str.Parse.{digits_value}
use Rattle.std.specs.List.{prefix_len, take_while}
use Rattle.std.proofs.Math.Seq.{take-append_seam, drop-append_seam}
use Rattle.std.proofs.lemmas.List.Folds.{length-prefix_len, prefix_len-append}
use Rattle.std.proofs.lemmas.Bool.{and_parts, not-true}
use Rattle.std.proofs.lemmas.Bool.Decides.{nat_tests}
use Rattle.std.proofs.lemmas.Fmt.{decimal_is_IsNumeral}
use Rattle.pb_text_lexer.specs.Bytes.{is_name_byte, is_letter, name_bytes, digits, is_name, value_within, whole_within}
use Rattle.pb_text_lexer.specs.RangeLines.{is_gap, behind_gap, in_word, word, behind_word, bound, positive, negative, bounded, words_bound}
use Rattle.pb_text_printer.specs.Sayable.{IsBound}
use Rattle.pb_text_printer.proofs.CutLemmas.{all-counted}

-- ---- bytes that all pass a test

abbrev pub Passing : (ℕ → Bool) → List ℕ → Type 0
Passing p [] = Unit {0}
Passing p (b ∷ bs) = (p b ≡ true) × Passing p bs

pub passing-counted : (p : ℕ → Bool) (bs : List ℕ) → Passing p bs → prefix_len p bs ≡ length bs
passing-counted p [] h = refl
passing-counted p (b ∷ bs) h =
    let rest = passing-counted p bs h.1 in
    ap (λ v. cond v (1 + prefix_len p bs) 0) h.0 ∙ (let e : 1 + prefix_len p bs ≡ length (b ∷ bs) = omega arith in e)

pub counted-passing : (p : ℕ → Bool) (bs : List ℕ) → prefix_len p bs ≡ length bs → Passing p bs
counted-passing p [] h = tt
counted-passing p (b ∷ bs) h = go (p b) refl h (counted-passing p bs)
  where
    go : (v : Bool) → p b ≡ v → cond v (1 + prefix_len p bs) 0 ≡ length (b ∷ bs) → (prefix_len p bs ≡ length bs → Passing p bs) → (p b ≡ true) × Passing p bs
    go true e h again = (e, again (omega arith))
    go false e h again = absurd (omega arith)

pub passing-weaker : (p q : ℕ → Bool) → ((b : ℕ) → p b ≡ true → q b ≡ true) → (bs : List ℕ) → Passing p bs → Passing q bs
passing-weaker p q weaker [] h = tt
passing-weaker p q weaker (b ∷ bs) h = (weaker b h.0, passing-weaker p q weaker bs h.1)

pub passing-both : (p : ℕ → Bool) (xs ys : List ℕ) → Passing p xs → Passing p ys → Passing p (xs ++ ys)
passing-both p [] ys h g = g
passing-both p (x ∷ xs) ys h g = (h.0, passing-both p xs ys h.1 g)

pub while-front : (p : ℕ → Bool) (ws rest : List ℕ) → Passing p ws → prefix_len p rest ≡ 0 → take_while p (ws ++ rest) ≡ ws
while-front p ws rest all none =
    let same = passing-counted p ws all in
    let both = prefix_len-append p ws rest in
    let long : cond (eqb (prefix_len p ws) (length ws)) (length ws + prefix_len p rest) (prefix_len p ws) ≡ length ws = grind (arith, nat_tests) in
    ap (λ n. take n (ws ++ rest)) (both ∙ long) ∙ take-append_seam ws rest

-- ---- words with a space before each

abbrev pub no_gap : ℕ → Bool
no_gap b = not (is_gap b)

-- nothing, or a space
abbrev pub SpaceOrNone : List ℕ → Type 0
SpaceOrNone [] = Unit {0}
SpaceOrNone (b ∷ bs) = b ≡ 32

space-ends : (rest : List ℕ) → SpaceOrNone rest → prefix_len no_gap rest ≡ 0
space-ends [] h = refl
space-ends (b ∷ bs) h = subst (λ (c : ℕ). prefix_len no_gap (c ∷ bs) ≡ 0) (sym h) refl

pub record WordAt (bs w rest : List ℕ) : Type 0 where
  pub first : word bs ≡ w
  pub behind : behind_word bs ≡ rest

behind-space : (b : ℕ) (bs : List ℕ) → no_gap b ≡ true → behind_gap (32 ∷ b ∷ bs) ≡ b ∷ bs
behind-space b bs h =
    ap (λ v. drop (length (take (1 + cond v (1 + prefix_len is_gap bs) 0) (32 ∷ b ∷ bs))) (32 ∷ b ∷ bs)) (not-true (is_gap b) h)

word-at : (b : ℕ) (bs rest : List ℕ) → Passing no_gap (b ∷ bs) → SpaceOrNone rest → WordAt (32 ∷ b ∷ bs ++ rest) (b ∷ bs) rest
word-at b bs rest all space =
    let from = behind-space b (bs ++ rest) all.0 in
    let first : word (32 ∷ b ∷ bs ++ rest) ≡ b ∷ bs = ap in_word from ∙ while-front no_gap (b ∷ bs) rest all (space-ends rest space) in
    record {
      first = first;
      behind = ap (λ v. drop (length v) (behind_gap (32 ∷ b ∷ bs ++ rest))) first ∙ ap (λ v. drop (length (b ∷ bs)) v) from ∙ drop-append_seam (b ∷ bs) rest;
    }

pub written-word : (w rest : List ℕ) → 0 < length w → Passing no_gap w → SpaceOrNone rest → WordAt (32 ∷ w ++ rest) w rest
written-word [] rest some all space = absurd (omega arith)
written-word (b ∷ bs) rest some all space = word-at b bs rest all space

-- ---- bounds

digit-no-gap : (b : ℕ) → is_ascii_digit b ≡ true → no_gap b ≡ true
digit-no-gap b h = grind (arith, nat_tests)

name-no-gap : (b : ℕ) → is_name_byte b ≡ true → no_gap b ≡ true
name-no-gap b h = grind (arith, nat_tests)

pub record Numeral (n : ℕ) : Type 0 where
  pub some : 0 < length (decimal n)
  pub all : Passing is_ascii_digit (decimal n)
  pub value : digits_value 10 (decimal n) ≡ n

pub numeral : (n : ℕ) → n < 2 ^ 64 → Numeral n
numeral n h =
    let is = decimal_is_IsNumeral n h in
    record { some = is.0.0; all = counted-passing is_ascii_digit (decimal n) (all-counted (decimal n) is.0.1); value = is.1 }

whole-number : (largest n : ℕ) → n < 2 ^ 64 → n ≤ largest → whole_within largest (decimal n) ≡ Some n
whole-number largest n h le = go (decimal n) is.some is.all is.value
  where
    is : Numeral n
    is = numeral n h

    small : (ds : List ℕ) → digits_value 10 ds ≡ n → nat_lt largest (digits_value 10 ds) ≡ false
    small ds e = grind (arith, nat_tests)

    go : (ds : List ℕ) → 0 < length ds → Passing is_ascii_digit ds → digits_value 10 ds ≡ n → whole_within largest ds ≡ Some n
    go [] some all e = absurd (omega arith)
    go (d ∷ ds) some all e =
        let count : length (digits (d ∷ ds)) ≡ length (d ∷ ds) = length-prefix_len is_ascii_digit (d ∷ ds) ∙ passing-counted is_ascii_digit (d ∷ ds) all in
        let test : (length (digits (d ∷ ds)) == length (d ∷ ds)) ≡ true = eq-eqb (length (digits (d ∷ ds))) (length (d ∷ ds)) count in
        ap (λ v. cond v (value_within largest (d ∷ ds)) None) test ∙ ap (λ v. cond v None (Some (digits_value 10 (d ∷ ds)))) (small (d ∷ ds) e) ∙ ap (λ v. Some v) e

digit-no-minus : (b : ℕ) → is_ascii_digit b ≡ true → (b == 45) ≡ false
digit-no-minus b h = grind (arith, nat_tests)

positive-bound : (ds : List ℕ) (n : ℕ) → 0 < length ds → Passing is_ascii_digit ds → whole_within 2147483647 ds ≡ Some n → bound ds ≡ Some (pos n)
unfolding bound
positive-bound [] n some all e = absurd (omega arith)
positive-bound (d ∷ ds) n some all e =
    ap (λ v. cond v (negative (whole_within 2147483648 ds)) (positive (whole_within 2147483647 (d ∷ ds)))) (digit-no-minus d all.0) ∙ ap positive e

pub bound-written : (z : ℤ) → IsBound z → bound (signed_decimal z) ≡ Some z
unfolding bound
bound-written (pos n) h =
    let large : n < 2 ^ 64 = omega arith in
    let is = numeral n large in
    positive-bound (decimal n) n is.some is.all (whole-number 2147483647 n large h)
bound-written (negsuc n) h =
    let large : suc n < 2 ^ 64 = omega arith in
    ap negative (whole-number 2147483648 (suc n) large h)

-- no end of a line
abbrev pub no_end : ℕ → Bool
no_end b = not (b == 10) && not (b == 13)

pub record SignedText (z : ℤ) : Type 0 where
  pub some : 0 < length (signed_decimal z)
  pub plain : Passing no_gap (signed_decimal z)
  pub inside : Passing no_end (signed_decimal z)

digit-inside : (b : ℕ) → is_ascii_digit b ≡ true → no_end b ≡ true
digit-inside b h = grind (arith, nat_tests)

pub name-inside : (b : ℕ) → is_name_byte b ≡ true → no_end b ≡ true
name-inside b h = grind (arith, nat_tests)

pub signed-text : (z : ℤ) → IsBound z → SignedText z
signed-text (pos n) h =
    let is = numeral n (let q : n < 2 ^ 64 = omega arith in q) in
    record { some = is.some; plain = passing-weaker is_ascii_digit no_gap digit-no-gap (decimal n) is.all; inside = passing-weaker is_ascii_digit no_end digit-inside (decimal n) is.all }
signed-text (negsuc n) h =
    let is = numeral (suc n) (let q : suc n < 2 ^ 64 = omega arith in q) in
    record {
      some = omega arith;
      plain = (refl, passing-weaker is_ascii_digit no_gap digit-no-gap (decimal (suc n)) is.all);
      inside = (refl, passing-weaker is_ascii_digit no_end digit-inside (decimal (suc n)) is.all);
    }

-- ---- the line

pub name-bytes : (text : List ℕ) → is_name text ≡ true → (0 < length text) × Passing is_name_byte text
name-bytes [] h = cc
name-bytes (b ∷ bs) h = ((let q : 0 < length (b ∷ bs) = omega arith in q), (name-of b front, counted-passing is_name_byte bs (sym (length-prefix_len is_name_byte bs) ∙ count)))
  where
    both : (is_letter b && length (name_bytes bs) == length bs) ≡ true
    both = (and_parts (is_letter b && length (name_bytes bs) == length bs) _ h).0

    front : is_letter b ≡ true
    front = (and_parts (is_letter b) (length (name_bytes bs) == length bs) both).0

    count : length (name_bytes bs) ≡ length bs
    count = let e = (and_parts (is_letter b) (length (name_bytes bs) == length bs) both).1 in grind (arith, nat_tests)

    name-of : (b : ℕ) → is_letter b ≡ true → is_name_byte b ≡ true
    name-of b e = grind (arith, nat_tests)

found : (w1 w2 w3 w4 : List ℕ) (low high : ℤ) → is_name w1 ≡ true → w4 ≡ [] → bound w2 ≡ Some low → bound w3 ≡ Some high → int_le low high ≡ true
    → cond (is_name w1 && length w4 == 0) (bounded w1 (bound w2) (bound w3)) None ≡ Some (record { name = w1; low = low; high = high })
found w1 w2 w3 w4 low high a b c d e =
    ap (λ v. cond (v && length w4 == 0) (bounded w1 (bound w2) (bound w3)) None) a
    ∙ ap (λ (v : List ℕ). cond (length v == 0) (bounded w1 (bound w2) (bound w3)) None) b
    ∙ ap (λ v. bounded w1 v (bound w3)) c ∙ ap (λ v. bounded w1 (Some low) v) d
    ∙ ap (λ v. cond v (Some (record { name = w1; low = low; high = high })) None) e

-- the words of a range line are its name and its bounds
pub words-found : (name : List ℕ) (low high : ℤ) → is_name name ≡ true → IsBound low → IsBound high → int_le low high ≡ true
    → words_bound (32 ∷ name ++ (32 ∷ signed_decimal low ++ (32 ∷ signed_decimal high ++ []))) ≡ Some (record { name = name; low = low; high = high })
unfolding words_bound
words-found name low high n l h order =
    let is = name-bytes name n in
    let lows = signed-text low l in let highs = signed-text high h in
    let third = written-word (signed_decimal high) [] highs.some highs.plain tt in
    let second = written-word (signed_decimal low) (32 ∷ signed_decimal high ++ []) lows.some lows.plain refl in
    let first = written-word name (32 ∷ signed_decimal low ++ (32 ∷ signed_decimal high ++ [])) is.0 (passing-weaker is_name_byte no_gap name-no-gap name is.1) refl in
    let bs : List ℕ = 32 ∷ name ++ (32 ∷ signed_decimal low ++ (32 ∷ signed_decimal high ++ [])) in
    let w2 : word (behind_word bs) ≡ signed_decimal low = ap word first.behind ∙ second.first in
    let b2 : behind_word (behind_word bs) ≡ 32 ∷ signed_decimal high ++ [] = ap behind_word first.behind ∙ second.behind in
    let w3 : word (behind_word (behind_word bs)) ≡ signed_decimal high = ap word b2 ∙ third.first in
    let w4 : word (behind_word (behind_word (behind_word bs))) ≡ [] = ap (λ v. word (behind_word v)) b2 ∙ ap word third.behind in
    found (word bs) (word (behind_word bs)) (word (behind_word (behind_word bs))) (word (behind_word (behind_word (behind_word bs)))) low high
    (ap is_name first.first ∙ n) w4 (ap bound w2 ∙ bound-written low l) (ap bound w3 ∙ bound-written high h) order
    ∙ ap (λ v. Some (record { name = v; low = low; high = high })) first.first
