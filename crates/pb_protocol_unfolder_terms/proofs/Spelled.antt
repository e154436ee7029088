-- The bytes of elements' names.
use Rattle.std.proofs.Common.{◌≡◌, ℕ, ◌<◌, ◌^◌, true, false, List, [], ◌∷◌, ◌++◌, refl, ◌∙◌}
use Rattle.std.specs.Prelude.{decimal, ◌||◌, ◌==◌}
use Rattle.std.specs.Char.{is_ascii_digit}
use Rattle.std.specs.List.{list_all}
use Rattle.std.specs.Str.{all_ascii_digits}
use Rattle.std.proofs.lemmas.Str.Parse.{IsNumeralModel, tells_all_ascii_digits, numerals_by_value}
use Rattle.std.specs.Str.Parse.{digits_value}
use Rattle.std.proofs.lemmas.Fmt.{digits_decimal}
use Rattle.std.proofs.lemmas.Bool.{or_left, or_right, and_parts, and_from}
use Rattle.std.proofs.lemmas.List.Folds.{list_all-append}
use Rattle.pb_base.specs.Names.{is_letter, is_name_byte, is_spelled}

own : IsNumeralModel (λ ds. all_ascii_digits ds ≡ true) (digits_value 10)
own = numerals_by_value _ tells_all_ascii_digits

digits-name_bytes : (bs : List ℕ) → all_ascii_digits bs ≡ true → list_all is_name_byte bs ≡ true
digits-name_bytes [] h = refl
digits-name_bytes (b ∷ bs) h =
    let p = and_parts (is_ascii_digit b) (all_ascii_digits bs) h in
    and_from (is_name_byte b) (list_all is_name_byte bs)
    (or_left (is_letter b || is_ascii_digit b) (b == 39) (or_right (is_letter b) (is_ascii_digit b) p.0))
    (digits-name_bytes bs p.1)

-- digits are bytes of names
pub decimal-name_bytes : (n : ℕ) → n < 2 ^ 64 → list_all is_name_byte (decimal n) ≡ true
decimal-name_bytes n h = digits-name_bytes (decimal n) (digits_decimal own n h)

-- so is a name
pub spelled-name_bytes : (bs : List ℕ) → is_spelled bs ≡ true → list_all is_name_byte bs ≡ true
spelled-name_bytes [] h = refl
spelled-name_bytes (b ∷ bs) h =
    let p = and_parts (is_letter b) (list_all is_name_byte bs) h in
    and_from (is_name_byte b) (list_all is_name_byte bs)
    (or_left (is_letter b || is_ascii_digit b) (b == 39) (or_left (is_letter b) (is_ascii_digit b) p.0)) p.1

-- a name with more bytes of names behind it is one
pub spelled-longer : (x ys : List ℕ) → is_spelled x ≡ true → list_all is_name_byte ys ≡ true → is_spelled (x ++ ys) ≡ true
spelled-longer [] ys h more = absurd (true≢false' h)
  where
    true≢false' : false ≡ true → ⊥
    true≢false' e = cc
spelled-longer (b ∷ bs) ys h more =
    let p = and_parts (is_letter b) (list_all is_name_byte bs) h in
    and_from (is_letter b) (list_all is_name_byte (bs ++ ys)) p.0
    (list_all-append is_name_byte bs ys ∙ and_from (list_all is_name_byte bs) (list_all is_name_byte ys) p.1 more)
