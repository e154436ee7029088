-- Tokens, without where their text lies in memory.
use Rattle.std.specs.Prelude.{ℕ, List}
use Rattle.pb_text_tree.specs.declared.place.Place.{Place}
use Rattle.pb_text_lexer.specs.declared.kind.Kind.{Kind}
use Rattle.pb_text_lexer.specs.declared.token.Token.{Token}

pub record Tok : Type 0 where
  pub kind : Kind
  pub text : List ℕ
  pub place : Place

abbrev pub tok : Token → Tok
tok t = record { kind = t.kind; text = t.text.now; place = t.place }

abbrev pub token_at : Place → Kind → List ℕ → Tok
token_at place kind text = record { kind = kind; text = text; place = place }
