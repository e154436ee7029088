-- Symbols and words of models that texts don't have. `count` is a name, but where a name stands
-- behind it: so each model without counting has the tokens that it had.
use Rattle.std.specs.Prelude.{ℕ, ◌+◌, Bool, false, not, ◌&&◌, ◌||◌, if◌then◌else◌, ◌==◌, List, [], ◌∷◌, length, take, drop, codes, Option, Some, None}
use Rattle.std.specs.Str.{bytes_eq}
use Rattle.pb_text_lexer.specs.declared.kind.Kind.{Kind}
use Rattle.pb_text_lexer.specs.declared.kind.Kind.TheVariants as k
use Rattle.pb_text_lexer.specs.declared.piece.Piece.{Piece}
use Rattle.pb_text_lexer.specs.declared.piece.Piece.TheVariants.{Token}
use Rattle.pb_text_lexer.specs.Bytes.{first_byte, is_blank, is_letter, name_bytes, kind_among, word_kind}
use Rattle.pb_text_lexer.specs.Kinds.{same_kind}

-- the words that models alone reserve
abbrev pub model_words : List (List ℕ × Kind)
model_words =
    (codes "model", k.Model) ∷ (codes "state", k.State) ∷ (codes "step", k.Step)
    ∷ (codes "property", k.Property) ∷ (codes "define", k.Define) ∷ (codes "skip", k.Skip) ∷ []

-- a word of so many bytes, where it is no name
abbrev pub reserved_word : ℕ → Kind → Option Piece
reserved_word n k.Name = None
reserved_word n kind = Some (Token kind n)

unfoldable pub model_word : List ℕ → Option Piece
model_word word = reserved_word (length word) (kind_among model_words word)

-- ---- `count`

abbrev pub behind_blanks : List ℕ → List ℕ
behind_blanks [] = []
behind_blanks (b ∷ bs) = if is_blank b then behind_blanks bs else b ∷ bs

-- the word at the front, if there is one
abbrev pub front_word : List ℕ → List ℕ
front_word [] = []
front_word (b ∷ bs) = if is_letter b then b ∷ name_bytes bs else []

-- words that stand between two operands of a formula, of which a name may be the first
abbrev pub is_between : List ℕ → Bool
is_between word = bytes_eq word (codes "until") || bytes_eq word (codes "leads_to")

abbrev pub is_unreserved : List ℕ → Bool
is_unreserved word =
    same_kind (word_kind word) k.Name && same_kind (kind_among model_words word) k.Name

-- a variable's name
abbrev pub may_be_counted : List ℕ → Bool
may_be_counted [] = false
may_be_counted (b ∷ bs) = not (is_between (b ∷ bs)) && is_unreserved (b ∷ bs)

-- it counts where white space alone stands before such a name
abbrev pub counts : List ℕ → Bool
counts bytes = may_be_counted (front_word (behind_blanks bytes))

-- a word, and the bytes behind it
unfoldable pub word_piece : List ℕ → List ℕ → Option Piece
word_piece word bytes =
    if bytes_eq word (codes "count") && counts bytes then Some (Token k.Count (length word))
    else model_word word

-- ---- symbols

-- `->` and `:=`
abbrev pub model_pair : ℕ → Option ℕ → Option Piece
model_pair a None = None
model_pair a (Some b) =
    if a == 45 && b == 62 then Some (Token k.Arrow 2) else
    (if a == 58 && b == 61 then Some (Token k.Assign 2) else None)

-- what stands at the front that models alone have: `[`, `]`, a word, a symbol of two bytes
unfoldable pub model_piece : List ℕ → Option Piece
model_piece [] = None
model_piece (b ∷ bs) =
    if b == 91 then Some (Token k.OpenSquare 1) else
    (if b == 93 then Some (Token k.CloseSquare 1) else
    (if is_letter b then word_piece (take (1 + length (name_bytes bs)) (b ∷ bs))
    (drop (1 + length (name_bytes bs)) (b ∷ bs))
    else model_pair b (first_byte bs)))
