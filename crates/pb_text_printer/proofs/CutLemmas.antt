-- How the words of a text are cut: each is its token, if what stands behind it does not go on with it.
use Rattle.std.proofs.Common.{◌≡◌, ◌≤◌, ◌<◌, ℕ, zero, suc, ◌+◌, ◌^◌, Bool, true, false, cond, not, ◌==◌, ◌&&◌, ◌||◌, List, [], ◌∷◌, ◌++◌, length, take, get_or, decimal, eqb, refl, sym, ap, ◌∙◌, subst, arith, nat_lt, Some, None}
use Rattle.std.specs.List.{prefix_len}
use Rattle.std.proofs.Math.Seq.{take-append_seam}
use Rattle.std.proofs.lemmas.List.Folds.{length-prefix_len, prefix_len-append}
use Rattle.std.proofs.lemmas.Str.Parse.{digit_from_value}
use Rattle.std.proofs.lemmas.Fmt.{decimal_is_IsNumeral, first_decimal, decimal_digit}
use Rattle.std.proofs.lemmas.Bool.Decides.{nat_tests}
use Rattle.std.specs.Char.{is_ascii_digit, digit_value}
use Rattle.std.specs.Str.Parse.{digits_value, AllDigits}
use Rattle.pb_text_tree.specs.declared.place.Place.{Place}
use Rattle.pb_text_lexer.specs.declared.kind.Kind.TheVariants as k
use Rattle.pb_text_lexer.specs.declared.piece.Piece.{Piece}
use Rattle.pb_text_lexer.specs.declared.piece.Piece.TheVariants.{Token}
use Rattle.pb_text_lexer.specs.Bytes.{is_blank, is_letter, is_name_byte, name_bytes, digits, word_kind}
use Rattle.pb_text_lexer.specs.Lexing.{piece, number, number_of, largest_number, symbol}
use Rattle.pb_text_printer.specs.Words.{Word}

-- ---- what may stand behind a word

-- a byte that goes on with no word
abbrev pub is_parting : ℕ → Bool
is_parting b = not (is_name_byte b) && not (b == 61) && not (b == 62) && not (b == 38) && not (b == 124)

abbrev pub Parts : List ℕ → Type 0
Parts [] = Unit {0}
Parts (b ∷ bs) = is_parting b ≡ true

-- no equals sign, which would go on with `!`
abbrev pub NotEquals : List ℕ → Type 0
NotEquals [] = Unit {0}
NotEquals (b ∷ bs) = (b == 61) ≡ false

abbrev pub Follows : Word → List ℕ → Type 0
Follows w rest = cond (w.gap || w.ends_line) (Parts rest) (NotEquals rest)

record Parted (b : ℕ) : Type 0 where
  name : is_name_byte b ≡ false
  equal : (b == 61) ≡ false
  greater : (b == 62) ≡ false
  bar : (b == 124) ≡ false

parted : (b : ℕ) → is_parting b ≡ true → Parted b
parted b h =
    record {
      name = first (is_name_byte b) _ _ _ _ h;
      equal = second (is_name_byte b) (b == 61) _ _ _ h;
      greater =
          third (is_name_byte b) (b == 61) (b == 62) _ _ h;
      bar = last (is_name_byte b) (b == 61) (b == 62) (b == 38) (b == 124) h;
    }
  where
    first : (x y z u v : Bool) → (not x && not y && not z && not u && not v) ≡ true → x ≡ false
    first true y z u v e = cc
    first false y z u v e = refl

    second : (x y z u v : Bool) → (not x && not y && not z && not u && not v) ≡ true → y ≡ false
    second true y z u v e = cc
    second false true z u v e = cc
    second false false z u v e = refl

    third : (x y z u v : Bool) → (not x && not y && not z && not u && not v) ≡ true → z ≡ false
    third true y z u v e = cc
    third false true z u v e = cc
    third false false true u v e = cc
    third false false false u v e = refl

    last : (x y z u v : Bool) → (not x && not y && not z && not u && not v) ≡ true → v ≡ false
    last true y z u v e = cc
    last false true z u v e = cc
    last false false true u v e = cc
    last false false false true v e = cc
    last false false false false true e = cc
    last false false false false false e = refl

-- the word is cut off as its token
pub record IsCutAsToken (w : Word) : Type 0 where
  pub cuts : (p : Place) (rest : List ℕ) → Follows w rest → piece p (w.text ++ rest) ≡ Token w.kind (length w.text)
  pub some : 0 < length w.text

-- ---- symbols that nothing goes on with

pub open-piece : (p : Place) (rest : List ℕ) → piece p (40 ∷ rest) ≡ Token k.Open 1
unfolding piece symbol
open-piece p [] = refl
open-piece p (b ∷ bs) = refl

pub close-piece : (p : Place) (rest : List ℕ) → piece p (41 ∷ rest) ≡ Token k.Close 1
unfolding piece symbol
close-piece p [] = refl
close-piece p (b ∷ bs) = refl

pub comma-piece : (p : Place) (rest : List ℕ) → piece p (44 ∷ rest) ≡ Token k.Comma 1
unfolding piece symbol
comma-piece p [] = refl
comma-piece p (b ∷ bs) = refl

pub semicolon-piece : (p : Place) (rest : List ℕ) → piece p (59 ∷ rest) ≡ Token k.Semicolon 1
unfolding piece symbol
semicolon-piece p [] = refl
semicolon-piece p (b ∷ bs) = refl

pub colon-piece : (p : Place) (rest : List ℕ) → piece p (58 ∷ rest) ≡ Token k.Colon 1
unfolding piece symbol
colon-piece p [] = refl
colon-piece p (b ∷ bs) = refl

pub period-piece : (p : Place) (rest : List ℕ) → piece p (46 ∷ rest) ≡ Token k.Period 1
unfolding piece symbol
period-piece p [] = refl
period-piece p (b ∷ bs) = refl

pub plus-piece : (p : Place) (rest : List ℕ) → piece p (43 ∷ rest) ≡ Token k.Plus 1
unfolding piece symbol
plus-piece p [] = refl
plus-piece p (b ∷ bs) = refl

pub minus-piece : (p : Place) (rest : List ℕ) → piece p (45 ∷ rest) ≡ Token k.Minus 1
unfolding piece symbol
minus-piece p [] = refl
minus-piece p (b ∷ bs) = refl

pub times-piece : (p : Place) (rest : List ℕ) → piece p (42 ∷ rest) ≡ Token k.Times 1
unfolding piece symbol
times-piece p [] = refl
times-piece p (b ∷ bs) = refl

pub question-piece : (p : Place) (rest : List ℕ) → piece p (63 ∷ rest) ≡ Token k.Question 1
unfolding piece symbol
question-piece p [] = refl
question-piece p (b ∷ bs) = refl

-- ---- symbols of two bytes

pub equal-piece : (p : Place) (rest : List ℕ) → piece p (61 ∷ 61 ∷ rest) ≡ Token k.Equal 2
unfolding piece symbol
equal-piece p rest = refl

pub not-equal-piece : (p : Place) (rest : List ℕ) → piece p (33 ∷ 61 ∷ rest) ≡ Token k.NotEqual 2
unfolding piece symbol
not-equal-piece p rest = refl

pub implies-piece : (p : Place) (rest : List ℕ) → piece p (61 ∷ 62 ∷ rest) ≡ Token k.Implies 2
unfolding piece symbol
implies-piece p rest = refl

pub less-equal-piece : (p : Place) (rest : List ℕ) → piece p (60 ∷ 61 ∷ rest) ≡ Token k.LessOrEqual 2
unfolding piece symbol
less-equal-piece p rest = refl

pub greater-equal-piece : (p : Place) (rest : List ℕ) → piece p (62 ∷ 61 ∷ rest) ≡ Token k.GreaterOrEqual 2
unfolding piece symbol
greater-equal-piece p rest = refl

pub and-piece : (p : Place) (rest : List ℕ) → piece p (38 ∷ 38 ∷ rest) ≡ Token k.And 2
unfolding piece symbol
and-piece p rest = refl

pub or-piece : (p : Place) (rest : List ℕ) → piece p (124 ∷ 124 ∷ rest) ≡ Token k.Or 2
unfolding piece symbol
or-piece p rest = refl

-- ---- symbols that another byte may go on with

pub less-piece : (p : Place) (rest : List ℕ) → Parts rest → piece p (60 ∷ rest) ≡ Token k.Less 1
unfolding piece symbol
less-piece p [] h = refl
less-piece p (b ∷ bs) h = ap (λ v. cond v (Token k.LessOrEqual 2) (Token k.Less 1)) (parted b h).equal

pub greater-piece : (p : Place) (rest : List ℕ) → Parts rest → piece p (62 ∷ rest) ≡ Token k.Greater 1
unfolding piece symbol
greater-piece p [] h = refl
greater-piece p (b ∷ bs) h = ap (λ v. cond v (Token k.GreaterOrEqual 2) (Token k.Greater 1)) (parted b h).equal

pub bar-piece : (p : Place) (rest : List ℕ) → Parts rest → piece p (124 ∷ rest) ≡ Token k.Bar 1
unfolding piece symbol
bar-piece p [] h = refl
bar-piece p (b ∷ bs) h = ap (λ v. cond v (Token k.Or 2) (Token k.Bar 1)) (parted b h).bar

pub is-piece : (p : Place) (rest : List ℕ) → Parts rest → piece p (61 ∷ rest) ≡ Token k.Is 1
unfolding piece symbol
is-piece p [] h = refl
is-piece p (b ∷ bs) h =
    ap (λ v. cond v (Token k.Equal 2) (cond (b == 62) (Token k.Implies 2) (Token k.Is 1))) (parted b h).equal ∙ ap (λ v. cond v (Token k.Implies 2) (Token k.Is 1)) (parted b h).greater

pub not-piece : (p : Place) (rest : List ℕ) → NotEquals rest → piece p (33 ∷ rest) ≡ Token k.Not 1
unfolding piece symbol
not-piece p [] h = refl
not-piece p (b ∷ bs) h = ap (λ v. cond v (Token k.NotEqual 2) (Token k.Not 1)) h

-- ---- words of letters

no-name-behind : (rest : List ℕ) → Parts rest → prefix_len is_name_byte rest ≡ 0
no-name-behind [] h = refl
no-name-behind (b ∷ bs) h = ap (λ v. cond v (1 + prefix_len is_name_byte bs) 0) (parted b h).name

whole-name : (bs rest : List ℕ) → length (name_bytes bs) ≡ length bs → Parts rest → length (name_bytes (bs ++ rest)) ≡ length bs
whole-name bs rest all h =
    let same : prefix_len is_name_byte bs ≡ length bs = sym (length-prefix_len is_name_byte bs) ∙ all in
    let none = no-name-behind rest h in
    let both = prefix_len-append is_name_byte bs rest in
    let long : cond (eqb (prefix_len is_name_byte bs) (length bs)) (length bs + prefix_len is_name_byte rest) (prefix_len is_name_byte bs) ≡ length bs = grind (arith, nat_tests) in
    length-prefix_len is_name_byte (bs ++ rest) ∙ both ∙ long

letter-not-blank : (b : ℕ) → is_letter b ≡ true → is_blank b ≡ false
letter-not-blank b h = grind (arith, nat_tests)

letter-no-comment : (b : ℕ) → is_letter b ≡ true → (b == 37) ≡ false
letter-no-comment b h = grind (arith, nat_tests)

third-of : (a b c : Bool) (x y z w : Piece) → a ≡ false → b ≡ false → c ≡ true → cond a x (cond b y (cond c z w)) ≡ z
third-of false false true x y z w e f g = refl
third-of true b c x y z w e f g = cc
third-of false true c x y z w e f g = cc
third-of false false false x y z w e f g = cc

pub letter-piece : (p : Place) (b : ℕ) (bs : List ℕ) → is_letter b ≡ true → piece p (b ∷ bs) ≡ Token (word_kind (take (1 + length (name_bytes bs)) (b ∷ bs))) (1 + length (name_bytes bs))
unfolding piece
letter-piece p b bs h = third-of (is_blank b) (b == 37) (is_letter b) _ _ _ _ (letter-not-blank b h) (letter-no-comment b h) h

-- letters and what goes on with them, up to what does not
pub word-piece : (p : Place) (b : ℕ) (bs rest : List ℕ) → is_letter b ≡ true → length (name_bytes bs) ≡ length bs
    → Parts rest → piece p ((b ∷ bs) ++ rest) ≡ Token (word_kind (b ∷ bs)) (length (b ∷ bs))
word-piece p b bs rest h all parts =
    let count = whole-name bs rest all parts in
    let more : 1 + length (name_bytes (bs ++ rest)) ≡ length (b ∷ bs) = omega arith in
    letter-piece p b (bs ++ rest) h ∙ ap (λ n. Token (word_kind (take n (b ∷ bs ++ rest))) n) more
    ∙ ap (λ v. Token (word_kind v) (length (b ∷ bs))) (take-append_seam (b ∷ bs) rest)

-- ---- numbers

no-digit-behind : (rest : List ℕ) → Parts rest → prefix_len is_ascii_digit rest ≡ 0
no-digit-behind [] h = refl
no-digit-behind (b ∷ bs) h = ap (λ v. cond v (1 + prefix_len is_ascii_digit bs) 0) (no-digit b (parted b h).name)
  where
    no-digit : (b : ℕ) → is_name_byte b ≡ false → is_ascii_digit b ≡ false
    no-digit b e = grind (arith, nat_tests)

pub digit-is : (d : ℕ) → digit_value d < 10 → is_ascii_digit d ≡ true
digit-is d h = let range = digit_from_value d h in grind (arith, nat_tests)

pub all-counted : (ds : List ℕ) → AllDigits 10 ds → prefix_len is_ascii_digit ds ≡ length ds
all-counted [] h = refl
all-counted (d ∷ ds) h =
    let rest = all-counted ds h.1 in
    ap (λ v. cond v (1 + prefix_len is_ascii_digit ds) 0) (digit-is d h.0) ∙ (let e : 1 + prefix_len is_ascii_digit ds ≡ length (d ∷ ds) = omega arith in e)

whole-digits : (ds rest : List ℕ) → AllDigits 10 ds → Parts rest → length (digits (ds ++ rest)) ≡ length ds
whole-digits ds rest all h =
    let same = all-counted ds all in
    let none = no-digit-behind rest h in
    let both = prefix_len-append is_ascii_digit ds rest in
    let long : cond (eqb (prefix_len is_ascii_digit ds) (length ds)) (length ds + prefix_len is_ascii_digit rest) (prefix_len is_ascii_digit ds) ≡ length ds = grind (arith, nat_tests) in
    length-prefix_len is_ascii_digit (ds ++ rest) ∙ both ∙ long

fifth-of : (a b c d e : Bool) (x y z w u v : Piece) → a ≡ false → b ≡ false → c ≡ false → d ≡ false → e ≡ true → cond a x (cond b y (cond c z (cond d w (cond e u v)))) ≡ u
fifth-of false false false false true x y z w u v f g h i j = refl
fifth-of true b c d e x y z w u v f g h i j = cc
fifth-of false true c d e x y z w u v f g h i j = cc
fifth-of false false true d e x y z w u v f g h i j = cc
fifth-of false false false true e x y z w u v f g h i j = cc
fifth-of false false false false false x y z w u v f g h i j = cc

-- what a digit from 1 to 9 is not
record Digit (d : ℕ) : Type 0 where
  blank : is_blank d ≡ false
  comment : (d == 37) ≡ false
  letter : is_letter d ≡ false
  zero_ : (d == 48) ≡ false
  digit : is_ascii_digit d ≡ true

digit-at-front : (d : ℕ) → digit_value d < 10 → 48 < d → Digit d
digit-at-front d h g =
    let range = digit_from_value d h in
    record {
      blank = grind (arith, nat_tests);
      comment = grind (arith, nat_tests);
      letter = grind (arith, nat_tests);
      zero_ = grind (arith, nat_tests);
      digit = digit-is d h;
    }

number-token : (ds : List ℕ) → digits_value 10 ds ≤ largest_number → number ds ≡ Token k.Number (length ds)
unfolding number
number-token ds h = ap (λ v. number_of (length ds) (cond v None (Some (digits_value 10 ds)))) small
  where
    small : nat_lt largest_number (digits_value 10 ds) ≡ false
    small = grind (arith, nat_tests)

pub digits-piece : (p : Place) (d : ℕ) (ds rest : List ℕ) → AllDigits 10 (d ∷ ds) → 48 < d
    → digits_value 10 (d ∷ ds) ≤ largest_number → Parts rest → piece p (d ∷ ds ++ rest) ≡ Token k.Number (length (d ∷ ds))
unfolding piece
digits-piece p d ds rest all first small parts =
    let is = digit-at-front d all.0 first in
    let count = whole-digits ds rest all.1 parts in
    let more : 1 + length (digits (ds ++ rest)) ≡ length (d ∷ ds) = omega arith in
    fifth-of (is_blank d) (d == 37) (is_letter d) (d == 48) (is_ascii_digit d) _ _ _ _ _ _ is.blank is.comment is.letter is.zero_ is.digit
    ∙ ap (λ n. number (take n (d ∷ ds ++ rest))) more ∙ ap (λ v. number v) (take-append_seam (d ∷ ds) rest) ∙ number-token (d ∷ ds) small

pub zero-piece : (p : Place) (rest : List ℕ) → piece p (48 ∷ rest) ≡ Token k.Number 1
unfolding piece
zero-piece p rest = refl

-- digits without a zero before them, or a zero alone
pub number-piece : (p : Place) (n : ℕ) (rest : List ℕ) → n ≤ largest_number → Parts rest → piece p (decimal n ++ rest) ≡ Token k.Number (length (decimal n))
number-piece p zero rest small parts =
    subst (λ (v : List ℕ). piece p (v ++ rest) ≡ Token k.Number (length v)) (sym (decimal_digit 0 (let q : 0 < 10 = omega arith in q))) (zero-piece p rest)
number-piece p (suc m) rest small parts =
    let large : suc m < 2 ^ 64 = omega arith in
    let is = decimal_is_IsNumeral (suc m) large in
    go (decimal (suc m)) is.0.0 is.0.1 (first_decimal (suc m) (let q : 0 < suc m = omega arith in q) large) (let q : digits_value 10 (decimal (suc m)) ≤ largest_number = omega arith in q)
  where
    go : (ds : List ℕ) → 0 < length ds → AllDigits 10 ds → 48 < get_or ds 0 0 → digits_value 10 ds ≤ largest_number → piece p (ds ++ rest) ≡ Token k.Number (length ds)
    go [] some all first small = absurd (omega arith)
    go (d ∷ ds) some all first small = digits-piece p d ds rest all first small parts
