-- What a printed text says.
use Rattle.std.specs.Prelude.{◌≡◌, ℕ, List, [], ◌∷◌, map}
use Rattle.pb_text_tree.specs.Form.{RangeForm, SpecForm}
use Rattle.pb_text_lexer.specs.declared.kind.Kind.TheVariants.{End}
use Rattle.pb_text_lexer.specs.Lexing.{IsCut}
use Rattle.pb_text_lexer.specs.Tokens.{Tok}
use Rattle.pb_text.specs.Parsing.{IsReadingWithin, depth_limit, operator_limit}
use Rattle.pb_text_printer.specs.Sayable.{Each, RangeSayable, TextSayable}
use Rattle.pb_text_printer.specs.Unplaced.{unplaced, unplaced_range}
use Rattle.pb_text_printer.specs.Words.{text_words, Spells}

-- the bytes are a text, within so many levels and operators, that says x but for places
pub record ReadsWithin (depth operators : ℕ) (bytes : List ℕ) (x : SpecForm) : Type 0 where
  pub says : SpecForm
  pub reading : IsReadingWithin depth operators bytes says
  pub same : unplaced x ≡ unplaced says

-- and within the limits of texts
abbrev pub ReadsAs : List ℕ → SpecForm → Type 0
ReadsAs = ReadsWithin depth_limit operator_limit

-- a tree can be said within so many levels, each equation and the initial instance within so many
-- operators
pub record IsSayable (depth operators : ℕ) (x : SpecForm) : Type 0 where
  pub text : TextSayable depth operators x
  pub ranges : Each RangeSayable x.ranges

-- the bytes are cut into the words of x, then the end, and its range lines
pub record IsPrinted (bytes : List ℕ) (x : SpecForm) : Type 0 where
  pub tokens : List Tok
  pub ranges : List RangeForm
  pub end : Tok
  pub cut : IsCut bytes tokens ranges
  pub words : Spells (text_words x) tokens (end ∷ [])
  pub ends : end.kind ≡ End
  pub lines : map unplaced_range ranges ≡ map unplaced_range x.ranges
