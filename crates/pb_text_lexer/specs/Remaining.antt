-- What a lexer still gives: a function of where it stands.
use Rattle.std.specs.Prelude.{◌≡◌, true, ℕ, zero, suc, ◌+◌, ◌-◌, ◌^◌, ◌<◌, if◌then◌else◌, List, [], ◌∷◌, ◌++◌, length, take}
use Rattle.pb_base.specs.Names.{is_spelled}
use Rattle.pb_text_tree.specs.declared.place.Place.{Place}
use Rattle.pb_text_tree.specs.Form.{RangeForm}
use Rattle.pb_text_lexer.specs.declared.kind.Kind.TheVariants.{End, Name, Number}
use Rattle.pb_text_lexer.specs.declared.piece.Piece.{Piece}
use Rattle.pb_text_lexer.specs.declared.piece.Piece.TheVariants as piece_is
use Rattle.pb_text_lexer.specs.Kinds.{is_last}
use Rattle.pb_text_lexer.specs.declared.language.Language.{Language}
use Rattle.pb_text_lexer.specs.Lexing.{piece_in, next_place}
use Rattle.pb_text_lexer.specs.RangeLines.{ranges_at}
use Rattle.pb_text_lexer.specs.declared.token.Token.{Token}
use Rattle.pb_text_lexer.specs.Bytes.{WritesNumber}
use Rattle.pb_text_lexer.specs.declared.lexer.Lexer.{Lexer}
use Rattle.pb_text_lexer.specs.Tokens.{Tok, tok, token_at}

-- the token of a piece at the front of the bytes, and then those that follow when so many bytes
-- more are passed over
abbrev pub tokens_of : Piece → Place → List ℕ → (ℕ → List Tok) → List Tok
tokens_of (piece_is.Blank n) p bytes following = following (n - 1)
tokens_of (piece_is.Token kind n) p bytes following =
    token_at p kind (take n bytes) ∷ following (n - 1)
tokens_of (piece_is.Stop kind) p bytes following = token_at p kind [] ∷ []

-- the tokens from a place on, the first bytes being passed over
unfoldable pub tokens_from : Language → List ℕ → ℕ → Place → List Tok
tokens_from l [] n p = token_at p End [] ∷ []
tokens_from l (b ∷ bs) zero p =
    tokens_of (piece_in l p (b ∷ bs)) p (b ∷ bs) (λ n. tokens_from l bs n (next_place p b))
tokens_from l (b ∷ bs) (suc n) p = tokens_from l bs n (next_place p b)

-- the range lines at the front of the bytes and those that follow
abbrev pub ranges_of : Piece → List RangeForm → (ℕ → List RangeForm) → List RangeForm
ranges_of (piece_is.Blank n) found following = found ++ following (n - 1)
ranges_of (piece_is.Token kind n) found following = following (n - 1)
ranges_of (piece_is.Stop kind) found following = []

-- the range lines from a place on, the first bytes being passed over
unfoldable pub ranges_from : Language → List ℕ → ℕ → Place → List RangeForm
ranges_from l [] n p = []
ranges_from l (b ∷ bs) zero p =
    ranges_of (piece_in l p (b ∷ bs)) (ranges_at p (b ∷ bs))
    (λ n. ranges_from l bs n (next_place p b))
ranges_from l (b ∷ bs) (suc n) p = ranges_from l bs n (next_place p b)

-- a line and a column within 32 bits, also behind the bytes
pub record IsWithin (p : Place) (bytes : List ℕ) : Type 0 where
  pub line : p.line + length bytes < 2 ^ 32
  pub column : p.column + length bytes < 2 ^ 32

-- the text of a number is its digits
abbrev pub HasDigits : Token → Type 0
HasDigits t = t.kind ≡ Number → WritesNumber t.text.now

-- the text of a name is spelled as one
abbrev pub HasSpelling : Token → Type 0
HasSpelling t = t.kind ≡ Name → is_spelled t.text.now ≡ true

abbrev pub remaining : Language → Lexer → List Tok
remaining l lexer =
    tok lexer.token
    ∷ (if is_last lexer.token.kind then [] else tokens_from l lexer.rest.now 0 lexer.place)
