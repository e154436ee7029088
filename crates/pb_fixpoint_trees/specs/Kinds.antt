-- Tokens in two lists: what kinds they are of, and the numbers that they call.
use Rattle.std.specs.Prelude.{◌≡◌, ℕ, Bool, true, false, List, [], ◌∷◌, Option, Some, None, map}
use Rattle.pb_fixpoint_trees.specs.declared.Token.{Token}
use Rattle.pb_fixpoint_trees.specs.declared.Token.TheVariants as token
use Rattle.pb_fixpoint_trees.specs.declared.kind.Kind.{Kind}
use Rattle.pb_fixpoint_trees.specs.declared.kind.Kind.TheVariants as kind

abbrev pub kind_of : Token → Kind
kind_of token.And = kind.And
kind_of token.Or = kind.Or
kind_of token.Close = kind.Close
kind_of token.Yes = kind.Yes
kind_of token.No = kind.No
kind_of token.Cut = kind.Cut
kind_of (token.Call n) = kind.Call

-- the numbers that are called, in order
abbrev pub calls_in : List Token → List ℕ
calls_in [] = []
calls_in (token.Call n ∷ tokens) = n ∷ calls_in tokens
calls_in (_ ∷ tokens) = calls_in tokens

-- the one token of a kind; a call has a number besides
abbrev pub token_of : Kind → Option Token
token_of kind.And = Some token.And
token_of kind.Or = Some token.Or
token_of kind.Close = Some token.Close
token_of kind.Yes = Some token.Yes
token_of kind.No = Some token.No
token_of kind.Cut = Some token.Cut
token_of kind.Call = None

-- the tokens of these kinds, which call these numbers; where numbers are lacking, they end
abbrev pub woven : List Kind → List ℕ → List Token
woven [] numbers = []
woven (kind.And ∷ kinds) numbers = token.And ∷ woven kinds numbers
woven (kind.Or ∷ kinds) numbers = token.Or ∷ woven kinds numbers
woven (kind.Close ∷ kinds) numbers = token.Close ∷ woven kinds numbers
woven (kind.Yes ∷ kinds) numbers = token.Yes ∷ woven kinds numbers
woven (kind.No ∷ kinds) numbers = token.No ∷ woven kinds numbers
woven (kind.Cut ∷ kinds) numbers = token.Cut ∷ woven kinds numbers
woven (kind.Call ∷ kinds) [] = []
woven (kind.Call ∷ kinds) (n ∷ numbers) = token.Call n ∷ woven kinds numbers

-- the kinds and the called numbers are those of the tokens
pub record IsSplit (tokens : List Token) (kinds : List Kind) (numbers : List ℕ) : Type 0 where
  pub of_kinds : kinds ≡ map kind_of tokens
  pub of_numbers : numbers ≡ calls_in tokens

abbrev pub kind_is_cut : Kind → Bool
kind_is_cut kind.Cut = true
kind_is_cut _ = false
