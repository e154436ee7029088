-- Digits and the number that they write.
use Rattle.std.proofs.Common.{◌≡◌, ℕ, suc, ◌+◌, ◌*◌, ◌-◌, ◌<◌, ◌≤◌, Bool, true, false, cond, List, [], ◌∷◌, length, take, drop, get_or, refl, sym, ap, ◌∙◌, arith, subst, None}
use Rattle.std.specs.Char.{is_ascii_digit, digit_value}
use Rattle.std.specs.Str.Parse.{digits_value, AllDigits}
use Rattle.std.proofs.lemmas.Str.Parse.{digit_at, digits_value-take-le}
use Rattle.std.proofs.lemmas.Str.{digit_value_digit}
use Rattle.std.proofs.lemmas.Int.Digits.{digits_value_more}
use Rattle.std.specs.List.{prefix_len}
use Rattle.std.proofs.lemmas.List.{take_all}
use Rattle.std.proofs.lemmas.List.Folds.{length-prefix_len}
use Rattle.std.proofs.lemmas.Grind.{common_steps}
use Rattle.std.proofs.lemmas.Bool.Decides.{nat_tests}
use Rattle.pb_text_lexer.specs.Bytes.{digits, value_within}

-- one digit more
pub one-more : (ds : List ℕ) (i value digit : ℕ) → AllDigits 10 ds → i < length ds → value ≡ digits_value 10 (take i ds) → digit ≡ get_or ds i 0 - 48
    → value * 10 + digit ≡ digits_value 10 (take (i + 1) ds)
one-more ds i value digit all at is digit_is =
    let range = digit_at ds i all at in
    let v = digit_value_digit (get_or ds i 0) range in
    let more = digits_value_more 10 ds i at in
    omega (arith, range, v, more)

pub digit-at-least : (ds : List ℕ) (i : ℕ) → AllDigits 10 ds → i < length ds → 48 ≤ get_or ds i 0
digit-at-least ds i all at = (digit_at ds i all at).0

pub digit-at-most : (ds : List ℕ) (i : ℕ) → AllDigits 10 ds → i < length ds → get_or ds i 0 - 48 ≤ 9
digit-at-most ds i all at = let p = (digit_at ds i all at).1 in omega arith

-- a number whose first digits write too much is too large
pub value-large : (largest : ℕ) (ds : List ℕ) (i : ℕ) → largest < digits_value 10 (take i ds) → value_within largest ds ≡ None
value-large largest ds i large =
    let more = digits_value-take-le 10 ds i (omega arith) in
    let whole : largest < digits_value 10 ds = omega arith in
    grind (arith, nat_tests)

digit-value : (b : ℕ) → is_ascii_digit b ≡ true → digit_value b < 10
digit-value b h = grind (arith, nat_tests)

front-more : (b : ℕ) (bs : List ℕ) → AllDigits 10 (digits bs) → (v : Bool) → is_ascii_digit b ≡ v
    → AllDigits 10 (take (cond v (1 + prefix_len is_ascii_digit bs) 0) (b ∷ bs))
front-more b bs rest true e =
    let more : suc (prefix_len is_ascii_digit bs) ≡ 1 + prefix_len is_ascii_digit bs = omega arith in
    subst (λ (n : ℕ). AllDigits 10 (take n (b ∷ bs))) more (digit-value b e, rest)
front-more b bs rest false e = tt

-- the digits at the front of a text
pub front-digits : (bs : List ℕ) → AllDigits 10 (digits bs)
front-digits [] = tt
front-digits (b ∷ bs) = front-more b bs (front-digits bs) (is_ascii_digit b) refl

-- what `&bytes[1..]` is
pub behind-first : {A : Type 0} (b : A) (bs : List A) → take (length (b ∷ bs) - 1) (drop 1 (b ∷ bs)) ≡ bs
behind-first b bs = grind (arith, common_steps)

-- a digit and the digits behind it
pub digits-at : (bs : List ℕ) (n : ℕ) → 0 < length bs → is_ascii_digit (get_or bs 0 0) ≡ true → n ≡ length (digits (take (length bs - 1) (drop 1 bs)))
    → AllDigits 10 (take (1 + n) bs)
digits-at [] n some digit count = absurd (omega arith)
digits-at (b ∷ bs) n some digit count =
    let same : n ≡ prefix_len is_ascii_digit bs = count ∙ ap (λ v. length (digits v)) (behind-first b bs) ∙ length-prefix_len is_ascii_digit bs in
    let more : suc (prefix_len is_ascii_digit bs) ≡ 1 + n = omega arith in
    subst (λ (n : ℕ). AllDigits 10 (take n (b ∷ bs))) more (digit-value b digit, front-digits bs)

-- a word that is digits alone
pub all-digits : (bs : List ℕ) → length (digits bs) ≡ length bs → AllDigits 10 bs
all-digits bs count =
    let same : prefix_len is_ascii_digit bs ≡ length bs = sym (length-prefix_len is_ascii_digit bs) ∙ count in
    let whole : digits bs ≡ bs = ap (λ n. take n bs) same ∙ take_all (length bs) bs (omega arith) in
    subst (λ (v : List ℕ). AllDigits 10 v) whole (front-digits bs)

-- a digit and the digits behind it
pub front-all : (b : ℕ) (bs : List ℕ) → is_ascii_digit b ≡ true → AllDigits 10 (take (1 + length (digits bs)) (b ∷ bs))
front-all b bs e =
    let same = length-prefix_len is_ascii_digit bs in
    let more : suc (prefix_len is_ascii_digit bs) ≡ 1 + length (digits bs) = omega arith in
    subst (λ (n : ℕ). AllDigits 10 (take n (b ∷ bs))) more (digit-value b e, front-digits bs)
