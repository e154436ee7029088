-- What a piece of a text takes: some of the bytes that there are, which are ASCII and on one line where they are a token.
use Rattle.std.proofs.Common.{◌≡◌, ℕ, suc, ◌+◌, ◌<◌, ◌≤◌, Bool, true, false, cond, ◌==◌, ◌&&◌, List, [], ◌∷◌, length, take, refl, sym, ap, ◌∙◌, arith, nat_lt, subst, Some, None}
use Rattle.std.proofs.lemmas.List.{length-take-le, take_all}
use Rattle.std.specs.Char.{is_ascii_digit}
use Rattle.std.specs.Str.{IsAscii, bytes_eq}
use Rattle.std.specs.Str.Parse.{digits_value, AllDigits}
use Rattle.std.specs.List.{prefix_len, take_while}
use Rattle.std.proofs.lemmas.Str.Ascii.{IsAscii-nil, IsAscii-cons}
use Rattle.std.proofs.lemmas.List.Sums.{prefix_len-le-length}
use Rattle.std.proofs.lemmas.List.Folds.{length-prefix_len}
use Rattle.std.proofs.lemmas.Bool.{and_parts}
use Rattle.std.proofs.lemmas.Bool.Decides.{nat_tests}
use Rattle.pb_text_tree.specs.declared.place.Place.{Place}
use Rattle.pb_text_lexer.specs.declared.kind.Kind.{Kind}
use Rattle.pb_text_lexer.specs.declared.kind.Kind.TheVariants as k
use Rattle.pb_text_lexer.specs.declared.piece.Piece.{Piece}
use Rattle.pb_text_lexer.specs.declared.piece.Piece.TheVariants.{Blank, Token, Stop}
use Rattle.pb_text_lexer.specs.Kinds.{is_last}
use Rattle.pb_text_lexer.proofs.DigitLemmas.{front-all}
use Rattle.pb_text_lexer.specs.Bytes.{is_blank, line, is_letter, is_name_byte, name_bytes, digits, word_kind, kind_among, reserved, is_name, WritesNumber}
use Rattle.pb_text_lexer.specs.RangeLines.{behind_range, is_wrong}
use Rattle.pb_text_lexer.specs.Lexing.{piece, past, number, number_of, largest_number, symbol, one_byte_among, one_byte_symbols, two_bytes_among, two_byte_symbols, first_byte}

-- bytes of ASCII that stand on one line
abbrev pub IsPlainByte : ℕ → Type 0
IsPlainByte b = (10 < b) × (b < 128)

abbrev pub IsPlain : List ℕ → Type 0
IsPlain [] = Unit {0}
IsPlain (b ∷ bs) = IsPlainByte b × IsPlain bs

pub plain-ascii : (bs : List ℕ) → IsPlain bs → IsAscii bs
plain-ascii [] plain = IsAscii-nil
plain-ascii (b ∷ bs) plain = IsAscii-cons b bs plain.0.1 (plain-ascii bs plain.1)

-- the place behind bytes that stand on one line
pub plain-past : (p : Place) (bs : List ℕ) → IsPlain bs → past p bs ≡ record { line = p.line; column = p.column + length bs }
plain-past p [] plain = let same : p.column ≡ p.column + 0 = omega arith in ap (λ (n : ℕ). record { line = p.line; column = n }) same
plain-past p (b ∷ bs) plain =
    let on : (b == 10) ≡ false = grind (arith, nat_tests, plain.0.0) in
    let next : Place = record { line = p.line; column = p.column + 1 } in
    let same : (p.column + 1) + length bs ≡ p.column + length (b ∷ bs) = omega arith in
    ap (λ (v : Bool). past (cond v (record { line = p.line + 1; column = 1 }) next) bs) on ∙ plain-past next bs plain.1 ∙ ap (λ (n : ℕ). record { line = p.line; column = n }) same

abbrev pub TakesOf : Piece → List ℕ → Type 0
TakesOf (Blank n) bs = (0 < n) × (n ≤ length bs)
TakesOf (Token kind n) bs = (0 < n) × (n ≤ length bs) × (is_last kind ≡ false) × IsPlain (take n bs) × (kind ≡ k.Number → WritesNumber (take n bs))
TakesOf (Stop kind) bs = (is_last kind ≡ true) × (kind ≡ k.End → bs ≡ [])

pub record Takes (p : Piece) (bs : List ℕ) : Type 0 where
  pub is : TakesOf p bs

-- one of two, by a test
pub pick : {A : Type 0} (P : A → Type 0) (b : Bool) (x y : A) → (b ≡ true → P x) → (b ≡ false → P y) → P (cond b x y)
pick P true x y p q = p refl
pick P false x y p q = q refl

-- ---- names and digits stand on one line

pub letter-plain : (b : ℕ) → is_letter b ≡ true → IsPlainByte b
letter-plain b h = (grind (arith, nat_tests), grind (arith, nat_tests))

pub name-plain : (b : ℕ) → is_name_byte b ≡ true → IsPlainByte b
name-plain b h = (grind (arith, nat_tests), grind (arith, nat_tests))

digit-plain : (b : ℕ) → is_ascii_digit b ≡ true → IsPlainByte b
digit-plain b h = (grind (arith, nat_tests), grind (arith, nat_tests))

while-more : (p : ℕ → Bool) (b : ℕ) (bs : List ℕ) → (p b ≡ true → IsPlainByte b) → IsPlain (take_while p bs) → (v : Bool) → p b ≡ v
    → IsPlain (take (cond v (1 + prefix_len p bs) 0) (b ∷ bs))
while-more p b bs plain rest true e =
    let more : suc (prefix_len p bs) ≡ 1 + prefix_len p bs = omega arith in
    subst (λ (n : ℕ). IsPlain (take n (b ∷ bs))) more (plain e, rest)
while-more p b bs plain rest false e = tt

while-plain : (p : ℕ → Bool) → ((b : ℕ) → p b ≡ true → IsPlainByte b) → (bs : List ℕ) → IsPlain (take_while p bs)
while-plain p plain [] = tt
while-plain p plain (b ∷ bs) = while-more p b bs (plain b) (while-plain p plain bs) (p b) refl

-- a byte and those behind it that pass a test
pub front-plain : (p : ℕ → Bool) (b : ℕ) (bs : List ℕ) → ((b : ℕ) → p b ≡ true → IsPlainByte b) → IsPlainByte b → IsPlain (take (1 + length (take_while p bs)) (b ∷ bs))
front-plain p b bs plain here =
    let same = length-prefix_len p bs in
    let more : suc (prefix_len p bs) ≡ 1 + length (take_while p bs) = omega arith in
    subst (λ (n : ℕ). IsPlain (take n (b ∷ bs))) more (here, while-plain p plain bs)

pub front-fits : (p : ℕ → Bool) (b : ℕ) (bs : List ℕ) → 1 + length (take_while p bs) ≤ length (b ∷ bs)
front-fits p b bs = let same = length-prefix_len p bs in let le = prefix_len-le-length p bs in omega arith

and-first-of : (a b c : Bool) → ((a && b) && c) ≡ true → a ≡ true
and-first-of true b c h = refl
and-first-of false b c h = h

-- a name
pub name-is-ascii : (bs : List ℕ) → is_name bs ≡ true → IsAscii bs
name-is-ascii [] h = IsAscii-nil
name-is-ascii (b ∷ bs) h =
    let front = and-first-of (is_letter b) _ _ h in
    let all : length (name_bytes bs) ≡ length bs = grind (arith, nat_tests) in
    let count : length (b ∷ bs) ≤ 1 + length (name_bytes bs) = omega arith in
    subst (λ (v : List ℕ). IsAscii v) (take_all (1 + length (name_bytes bs)) (b ∷ bs) count) (plain-ascii _ (front-plain is_name_byte b bs name-plain (letter-plain b front)))

-- ---- words

-- kinds that no word and no symbol has
abbrev pub is_special : Kind → Bool
is_special k.Number = true
is_special k.End = true
is_special k.Unknown = true
is_special k.LargeNumber = true
is_special k.RangeLine = true
is_special _ = false

pub special-last : (kind : Kind) → is_special kind ≡ false → is_last kind ≡ false
special-last k.End h = cc
special-last k.Unknown h = cc
special-last k.LargeNumber h = cc
special-last k.RangeLine h = cc
special-last _ h = refl

pub special-number : (kind : Kind) → is_special kind ≡ false → kind ≡ k.Number → ⊥
special-number kind h e = let p : is_special kind ≡ true = ap is_special e in cc

pub record NotLast (kind : Kind) : Type 0 where
  pub is : is_special kind ≡ false

abbrev pub none_last : List (List ℕ × Kind) → Bool
none_last [] = true
none_last (entry ∷ entries) = cond (is_special entry.1) false (none_last entries)

-- of the tests of a table's entries that all must fail, the first and the rest
pub none-first : (b c : Bool) → cond b false c ≡ true → b ≡ false
none-first true c h = sym h
none-first false c h = refl

pub none-rest : (b c : Bool) → cond b false c ≡ true → c ≡ true
none-rest true c h = cc
none-rest false c h = h

pub among-not-last : (table : List (List ℕ × Kind)) (word : List ℕ) → none_last table ≡ true → NotLast (kind_among table word)
among-not-last [] word h = record { is = refl }
among-not-last (entry ∷ entries) word h =
    pick NotLast (bytes_eq entry.0 word) entry.1 (kind_among entries word) (λ e. record { is = none-first (is_special entry.1) (none_last entries) h })
    (λ e. among-not-last entries word (none-rest (is_special entry.1) (none_last entries) h))

word-not-last : (word : List ℕ) → is_special (word_kind word) ≡ false
unfolding word_kind
word-not-last word = (among-not-last reserved word refl).is

-- ---- symbols

abbrev pub is_plain : ℕ → Bool
is_plain b = nat_lt 10 b && nat_lt b 128

abbrev good_bytes : List (ℕ × Kind) → Bool
good_bytes [] = true
good_bytes (entry ∷ entries) = cond (is_special entry.1) false (cond (is_plain entry.0) (good_bytes entries) false)

abbrev good_pairs : List (ℕ × ℕ × Kind) → Bool
good_pairs [] = true
good_pairs (entry ∷ entries) = cond (is_special entry.2) false (cond (is_plain entry.0) (cond (is_plain entry.1) (good_pairs entries) false) false)

and-first : (b c : Bool) → cond b c false ≡ true → b ≡ true
and-first true c h = refl
and-first false c h = h

and-rest : (b c : Bool) → cond b c false ≡ true → c ≡ true
and-rest true c h = h
and-rest false c h = cc

pub plain-is : (a b : ℕ) → (a == b) ≡ true → is_plain b ≡ true → IsPlainByte a
plain-is a b e h = (grind (arith, nat_tests), grind (arith, nat_tests))

one-takes : (table : List (ℕ × Kind)) (a : ℕ) (bs : List ℕ) → good_bytes table ≡ true → Takes (one_byte_among table a) (a ∷ bs)
one-takes [] a bs h = record { is = (refl, λ e. cc) }
one-takes (entry ∷ entries) a bs h =
    let rest = none-rest (is_special entry.1) _ h in
    pick (λ v. Takes v (a ∷ bs)) (a == entry.0) (Token entry.1 1) (one_byte_among entries a)
    (λ e. record {
      is = (
        omega arith,
        (let p : 1 ≤ length (a ∷ bs) = omega arith in p),
        special-last entry.1
            (none-first (is_special entry.1) _ h),
        (plain-is a entry.0 e (and-first (is_plain entry.0) _ rest), tt),
        (λ q. absurd (special-number entry.1 (none-first (is_special entry.1) _ h) q)),
      );
    })
    (λ e. one-takes entries a bs (and-rest (is_plain entry.0) _ rest))

two-takes : (table : List (ℕ × ℕ × Kind)) (a b : ℕ) (bs : List ℕ) → good_pairs table ≡ true → Takes (two_bytes_among table a b) (a ∷ b ∷ bs)
two-takes [] a b bs h = one-takes one_byte_symbols a (b ∷ bs) refl
two-takes (entry ∷ entries) a b bs h =
    let rest = none-rest (is_special entry.2) _ h in
    let plain = and-first (is_plain entry.0) _ rest in
    let rest' = and-rest (is_plain entry.0) _ rest in
    pick (λ v. Takes v (a ∷ b ∷ bs)) (a == entry.0 && b == entry.1) (Token entry.2 2) (two_bytes_among entries a b)
    (λ e. let both = and_parts (a == entry.0) (b == entry.1) e in record {
      is = (
        omega arith,
        (let p : 2 ≤ length (a ∷ b ∷ bs) = omega arith in p),
        special-last entry.2 (none-first (is_special entry.2) _ h),
        (plain-is a entry.0 both.0 plain, (plain-is b entry.1 both.1 (and-first (is_plain entry.1) _ rest'), tt)),
        (λ q. absurd (special-number entry.2 (none-first (is_special entry.2) _ h) q)),
      );
    })
    (λ e. two-takes entries a b bs (and-rest (is_plain entry.1) _ rest'))

symbol-takes : (a : ℕ) (bs : List ℕ) → Takes (symbol a (first_byte bs)) (a ∷ bs)
unfolding symbol
symbol-takes a [] = one-takes one_byte_symbols a [] refl
symbol-takes a (b ∷ bs) = two-takes two_byte_symbols a b bs refl

-- ---- numbers

small-number : (ds : List ℕ) → nat_lt largest_number (digits_value 10 ds) ≡ false → digits_value 10 ds ≤ largest_number
small-number ds e = grind (arith, nat_tests)

number-takes : (ds bs : List ℕ) (n : ℕ) → ds ≡ take n bs → AllDigits 10 ds → 0 < n → n ≤ length bs → IsPlain (take n bs) → Takes (number ds) bs
unfolding number
number-takes ds bs n is all some le plain =
    let count : length ds ≡ n = ap length is ∙ length-take-le n bs le in
    pick (λ v. Takes (number_of (length ds) v) bs) (nat_lt largest_number (digits_value 10 ds)) None (Some (digits_value 10 ds))
    (λ e. record { is = (refl, λ e. cc) })
    (λ e. record {
      is = (
        omega arith,
        (let p : length ds ≤ length bs = omega arith in p),
        refl,
        subst (λ (m : ℕ). IsPlain (take m bs)) (sym count) plain,
        (λ q. subst (λ (v : List ℕ). WritesNumber v) (is ∙ ap (λ m. take m bs) (sym count)) (record { digits = all; small = small-number ds e })),
      );
    })

-- a single zero
zero-number : (b : ℕ) (bs : List ℕ) → (b == 48) ≡ true → WritesNumber (take 1 (b ∷ bs))
zero-number b bs e =
    let is : b ≡ 48 = grind (arith, nat_tests) in
    subst (λ (v : ℕ). WritesNumber (take 1 (v ∷ bs))) (sym is) (record { digits = (omega arith, tt); small = omega arith })

-- ---- all pieces

pub choose : (bs : List ℕ) (b : Bool) (x y : Piece) → (b ≡ true → Takes x bs) → (b ≡ false → Takes y bs) → Takes (cond b x y) bs
choose bs true x y p q = p refl
choose bs false x y p q = q refl

pub piece-takes : (p : Place) (bs : List ℕ) → Takes (piece p bs) bs
unfolding piece
piece-takes p [] = record { is = (refl, λ e. refl) }
piece-takes p (b ∷ bs) =
    choose (b ∷ bs) (is_blank b) _ _ (λ e. record { is = (omega arith, (let p : 1 ≤ length (b ∷ bs) = omega arith in p)) }) (λ e.
    choose (b ∷ bs) (b == 37) _ _ (λ e. choose (b ∷ bs) (p.column == 1 && is_wrong (behind_range (line bs))) _ _ (λ e. record { is = (refl, λ e. cc) })
    (λ e. record { is = ((let q : 0 < 1 + length (line bs) = omega arith in q), front-fits _ b bs) })) (λ e.
    choose (b ∷ bs) (is_letter b) _ _ (λ e. record {
      is = (
        (let q : 0 < 1 + length (name_bytes bs) = omega arith in q),
        front-fits is_name_byte b bs,
        special-last (word_kind (take (1 + length (name_bytes bs)) (b ∷ bs))) (word-not-last (take (1 + length (name_bytes bs)) (b ∷ bs))),
        front-plain is_name_byte b bs name-plain (letter-plain b e),
        (λ q. absurd (special-number (word_kind (take (1 + length (name_bytes bs)) (b ∷ bs))) (word-not-last (take (1 + length (name_bytes bs)) (b ∷ bs))) q)),
      );
    }) (λ e.
    choose (b ∷ bs) (b == 48) _ _ (λ e. record { is = (omega arith, (let p : 1 ≤ length (b ∷ bs) = omega arith in p), refl, (plain-is b 48 e refl, tt), (λ q. zero-number b bs e)) }) (λ e.
    choose (b ∷ bs) (is_ascii_digit b) _ _
    (λ e. number-takes (take (1 + length (digits bs)) (b ∷ bs)) (b ∷ bs) (1 + length (digits bs)) refl
    (front-all b bs e) (let q : 0 < 1 + length (digits bs) = omega arith in q) (front-fits is_ascii_digit b bs)
    (front-plain is_ascii_digit b bs digit-plain (digit-plain b e)))
    (λ e. symbol-takes b bs)))))

pub token-takes : (p : Place) (bs : List ℕ) (kind : Kind) (n : ℕ) → Token kind n ≡ piece p bs → TakesOf (Token kind n) bs
token-takes p bs kind n e = (subst (λ (v : Piece). Takes v bs) (sym e) (piece-takes p bs)).is
