-- How a text is cut: white space, comments and tokens, each as long as it can be.
use Rattle.std.specs.Prelude.{◌≡◌, ◌⊎◌, ℕ, ◌+◌, ◌&&◌, if◌then◌else◌, ◌==◌, ◌<◌, List, [], ◌∷◌, ◌++◌, length, take, drop, Option, Some, None}
use Rattle.std.specs.Char.{is_ascii_digit}
use Rattle.pb_text_tree.specs.declared.place.Place.{Place}
use Rattle.pb_text_tree.specs.Form.{RangeForm}
use Rattle.pb_text_lexer.specs.declared.kind.Kind.{Kind}
use Rattle.pb_text_lexer.specs.declared.kind.Kind.TheVariants as k
use Rattle.pb_text_lexer.specs.declared.language.Language.{Language}
use Rattle.pb_text_lexer.specs.declared.language.Language.TheVariants as language
use Rattle.pb_text_lexer.specs.declared.piece.Piece.{Piece}
use Rattle.pb_text_lexer.specs.declared.piece.Piece.TheVariants.{Blank, Token, Stop}
use Rattle.pb_text_lexer.specs.Bytes.{is_blank, is_letter, name_bytes, digits, line, word_kind, value_within}
pub use Rattle.pb_text_lexer.specs.Bytes.{largest_number, first_byte}
use Rattle.pb_text_lexer.specs.RangeLines.{behind_range, is_wrong, ranges_at}
use Rattle.pb_text_lexer.specs.ModelPieces.{model_piece}
use Rattle.pb_text_lexer.specs.Tokens.{Tok, token_at}

-- ---- symbols

abbrev pub one_byte_symbols : List (ℕ × Kind)
one_byte_symbols =
    (40, k.Open) ∷ (41, k.Close) ∷ (44, k.Comma) ∷ (59, k.Semicolon) ∷ (58, k.Colon)
    ∷ (46, k.Period) ∷ (61, k.Is) ∷ (33, k.Not) ∷
    (124, k.Bar) ∷ (60, k.Less) ∷ (62, k.Greater) ∷ (43, k.Plus) ∷ (45, k.Minus) ∷ (42, k.Times)
    ∷ (63, k.Question) ∷ []

abbrev pub two_byte_symbols : List (ℕ × ℕ × Kind)
two_byte_symbols =
    (61, 61, k.Equal) ∷ (33, 61, k.NotEqual) ∷ (61, 62, k.Implies) ∷ (60, 61, k.LessOrEqual)
    ∷ (62, 61, k.GreaterOrEqual) ∷
    (38, 38, k.And) ∷ (124, 124, k.Or) ∷ []

-- the symbol of one byte, or else no token (P01)
abbrev pub one_byte_among : List (ℕ × Kind) → ℕ → Piece
one_byte_among [] a = Stop k.Unknown
one_byte_among (entry ∷ entries) a =
    if a == entry.0 then Token entry.1 1 else one_byte_among entries a

-- the symbol of two bytes, or else of the first of them
abbrev pub two_bytes_among : List (ℕ × ℕ × Kind) → ℕ → ℕ → Piece
two_bytes_among [] a b = one_byte_among one_byte_symbols a
two_bytes_among (entry ∷ entries) a b =
    if a == entry.0 && b == entry.1 then Token entry.2 2 else two_bytes_among entries a b

-- the longest symbol that a byte begins, with the byte behind it if there is one
unfoldable pub symbol : ℕ → Option ℕ → Piece
symbol a None = one_byte_among one_byte_symbols a
symbol a (Some b) = two_bytes_among two_byte_symbols a b

-- ---- numbers

-- a number of n digits, unless it is above the largest (P03)
abbrev pub number_of : ℕ → Option ℕ → Piece
number_of n None = Stop k.LargeNumber
number_of n (Some value) = Token k.Number n

-- a number, by its digits
unfoldable pub number : List ℕ → Piece
number ds = number_of (length ds) (value_within largest_number ds)

-- ---- what stands at the front

-- what stands at a place of a text, at the front of the bytes from there on
unfoldable pub piece : Place → List ℕ → Piece
piece p [] = Stop k.End
piece p (b ∷ bs) =
    if is_blank b then Blank 1 else
    (if b == 37
    then (if p.column == 1 && is_wrong (behind_range (line bs)) then Stop k.RangeLine
    else Blank (1 + length (line bs))) else
    (if is_letter b
    then Token (word_kind (take (1 + length (name_bytes bs)) (b ∷ bs))) (1 + length (name_bytes bs))
    else
    (if b == 48 then Token k.Number 1 else
    (if is_ascii_digit b then number (take (1 + length (digits bs)) (b ∷ bs))
    else symbol b (first_byte bs)))))

-- what a model has there that texts don't have, or else what a text has
abbrev pub or_piece : Option Piece → Piece → Piece
or_piece (Some own) other = own
or_piece None other = other

-- what stands at a place in each of the languages
abbrev pub piece_in : Language → Place → List ℕ → Piece
piece_in language.Text p bs = piece p bs
piece_in language.Model p bs = or_piece (model_piece bs) (piece p bs)

-- ---- places

abbrev pub next_place : Place → ℕ → Place
next_place p b =
    if b == 10 then record { line = p.line + 1; column = 1 } else record p { column = p.column + 1 }

-- the place behind the bytes
abbrev pub past : Place → List ℕ → Place
past p [] = p
past p (b ∷ bs) = past (next_place p b) bs

abbrev pub start : Place
start = record { line = 1; column = 1 }

-- ---- the whole text

-- From a place on, the bytes are cut into these tokens and range lines, up to a place and the bytes
-- from there on.
pub data CutsIn (l : Language) : Place → List ℕ → List Tok → List RangeForm → Place → List ℕ
    → Type 0 where
  none : {p : Place} {bs : List ℕ} → CutsIn l p bs [] [] p bs
  blank : {p q : Place} {bs rest : List ℕ} {ts : List Tok} {rs : List RangeForm} {n : ℕ}
      → piece_in l p bs ≡ Blank n
      → CutsIn l (past p (take n bs)) (drop n bs) ts rs q rest
      → CutsIn l p bs ts (ranges_at p bs ++ rs) q rest
  token : {p q : Place} {bs rest : List ℕ} {ts : List Tok} {rs : List RangeForm} {kind : Kind}
      {n : ℕ} → piece_in l p bs ≡ Token kind n
      → CutsIn l (past p (take n bs)) (drop n bs) ts rs q rest
      → CutsIn l p bs (token_at p kind (take n bs) ∷ ts) rs q rest

-- The bytes are these tokens, the last of which is their end, and these range lines.
abbrev pub IsCutIn : Language → List ℕ → List Tok → List RangeForm → Type 0
IsCutIn l bytes tokens ranges =
    (ts : List Tok) × (q : Place) × CutsIn l start bytes ts ranges q []
    × (tokens ≡ ts ++ token_at q k.End [] ∷ [])

-- The bytes are cut into these tokens up to a place, and what stands there is no token, nor the
-- end.
pub record IsDefectIn (l : Language) (bytes : List ℕ) (ts : List Tok) (place : Place)
    (kind : Kind) : Type 0 where
  pub rest : List ℕ
  pub ranges : List RangeForm
  pub cut : CutsIn l start bytes ts ranges place rest
  pub some : 0 < length rest
  pub stops : piece_in l place rest ≡ Stop kind

-- The bytes begin with these tokens: they are cut into them and what follows, or into them alone.
abbrev pub BeginsIn : Language → List ℕ → List Tok → Type 0
BeginsIn l bytes ts =
    ((q : Place) × (rest : List ℕ) × (ranges : List RangeForm)
    × CutsIn l start bytes ts ranges q rest)
    ⊎ ((ranges : List RangeForm) × IsCutIn l bytes ts ranges)

-- ---- the same of a text

abbrev pub Cuts : Place → List ℕ → List Tok → List RangeForm → Place → List ℕ → Type 0
Cuts = CutsIn language.Text

abbrev pub IsCut : List ℕ → List Tok → List RangeForm → Type 0
IsCut = IsCutIn language.Text

abbrev pub IsDefect : List ℕ → List Tok → Place → Kind → Type 0
IsDefect = IsDefectIn language.Text

abbrev pub Begins : List ℕ → List Tok → Type 0
Begins = BeginsIn language.Text
