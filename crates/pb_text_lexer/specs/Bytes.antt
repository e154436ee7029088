-- Bytes, words and digits of a text.
use Rattle.std.specs.Prelude.{ℕ, ◌^◌, Bool, false, not, ◌&&◌, ◌||◌, if◌then◌else◌, ◌==◌, ◌≤◌, nat_lt, List, [], ◌∷◌, length, take_while, codes, Option, Some, None, map}
use Rattle.std.specs.Borrow.{Bor}
use Rattle.std.specs.Char.{is_ascii_digit}
use Rattle.std.specs.Str.{bytes_eq}
use Rattle.std.specs.Str.Parse.{digits_value, AllDigits}
pub use Rattle.pb_base.specs.Names.{is_letter, is_name_byte}
use Rattle.pb_text_lexer.specs.declared.kind.Kind.{Kind}
use Rattle.pb_text_lexer.specs.declared.kind.Kind.TheVariants as k
use Rattle.pb_text_lexer.specs.Kinds.{same_kind}

-- ---- bytes

abbrev pub first_byte : List ℕ → Option ℕ
first_byte [] = None
first_byte (b ∷ bs) = Some b

-- a space, a tab, a line feed, a carriage return
abbrev pub is_blank : ℕ → Bool
is_blank b = b == 32 || b == 9 || b == 10 || b == 13

abbrev pub blanks : List ℕ → List ℕ
blanks = take_while is_blank

abbrev pub name_bytes : List ℕ → List ℕ
name_bytes = take_while is_name_byte

abbrev pub digits : List ℕ → List ℕ
digits = take_while is_ascii_digit

-- up to the end of the line
abbrev pub line : List ℕ → List ℕ
line = take_while (λ b. not (b == 10))

-- ---- words

abbrev pub reserved : List (List ℕ × Kind)
reserved =
    (codes "sort", k.Sort) ∷ (codes "struct", k.Struct) ∷ (codes "pbes", k.Pbes)
    ∷ (codes "mu", k.Mu) ∷ (codes "nu", k.Nu) ∷
    (codes "init", k.Init) ∷ (codes "val", k.Val) ∷ (codes "true", k.True)
    ∷ (codes "false", k.False) ∷
    (codes "forall", k.Forall) ∷ (codes "exists", k.Exists) ∷ (codes "div", k.Div)
    ∷ (codes "mod", k.Mod) ∷
    (codes "cons", k.Reserved) ∷ (codes "map", k.Reserved) ∷ (codes "var", k.Reserved)
    ∷ (codes "eqn", k.Reserved) ∷
    (codes "glob", k.Reserved) ∷ (codes "lambda", k.Reserved) ∷ (codes "whr", k.Reserved)
    ∷ (codes "end", k.Reserved) ∷
    (codes "in", k.Reserved) ∷ (codes "act", k.Reserved) ∷ (codes "proc", k.Reserved) ∷ []

-- the kind that the list gives a word, or else a name
abbrev pub kind_among : List (List ℕ × Kind) → List ℕ → Kind
kind_among [] word = k.Name
kind_among (entry ∷ entries) word =
    if bytes_eq entry.0 word then entry.1 else kind_among entries word

-- a table of words, as the code keeps it
abbrev pub entries : List (Bor (List ℕ) × Kind) → List (List ℕ × Kind)
entries = map (λ entry. (entry.0.now, entry.1))

unfoldable pub word_kind : List ℕ → Kind
word_kind = kind_among reserved

-- a name that is no reserved word
abbrev pub is_name : List ℕ → Bool
is_name [] = false
is_name (b ∷ bs) =
    is_letter b && length (name_bytes bs) == length bs && same_kind (word_kind (b ∷ bs)) k.Name

-- ---- numbers

-- the number that the digits write, if it is no larger than this
abbrev pub value_within : ℕ → List ℕ → Option ℕ
value_within largest ds =
    if nat_lt largest (digits_value 10 ds) then None else Some (digits_value 10 ds)

-- the largest number that a text may write
abbrev pub largest_number : ℕ
largest_number = 2 ^ 62

-- digits that write a number of at most that
pub record WritesNumber (ds : List ℕ) : Type 0 where
  pub digits : AllDigits 10 ds
  pub small : digits_value 10 ds ≤ largest_number

-- the same of a word that must be digits, one or more
abbrev pub whole_within : ℕ → List ℕ → Option ℕ
whole_within largest [] = None
whole_within largest (b ∷ bs) =
    if length (digits (b ∷ bs)) == length (b ∷ bs) then value_within largest (b ∷ bs) else None
