-- Which kinds of token are equal, and behind which no token stands.
use Rattle.std.specs.Prelude.{Bool, true, false}
use denote.Enum.Bare.{sameb}
use Rattle.pb_text_lexer.specs.declared.kind.Kind.{Kind}
use Rattle.pb_text_lexer.specs.declared.kind.Kind.TheVariants as k
use Rattle.pb_text_lexer.specs.contracts.kind.Kind.{the_type}

-- `==` on kinds
unfoldable pub same_kind : Kind → Kind → Bool
same_kind = sameb the_type

-- what is no token, nor the end of a text
abbrev pub is_defect : Kind → Bool
is_defect k.Unknown = true
is_defect k.LargeNumber = true
is_defect k.RangeLine = true
is_defect _ = false

-- at which a limit can be exceeded: what opens a level, and operators with two operands
abbrev pub is_limited : Kind → Bool
is_limited k.Not = true
is_limited k.Open = true
is_limited k.OpenSquare = true
is_limited k.Minus = true
is_limited k.Forall = true
is_limited k.Exists = true
is_limited k.Count = true
is_limited k.Mu = true
is_limited k.Nu = true
is_limited k.And = true
is_limited k.Or = true
is_limited k.Implies = true
is_limited k.Equal = true
is_limited k.NotEqual = true
is_limited k.Less = true
is_limited k.LessOrEqual = true
is_limited k.Greater = true
is_limited k.GreaterOrEqual = true
is_limited k.Plus = true
is_limited k.Times = true
is_limited k.Div = true
is_limited k.Mod = true
is_limited _ = false

-- the end of a text, and what is no token
abbrev pub is_last : Kind → Bool
is_last k.End = true
is_last k.Unknown = true
is_last k.LargeNumber = true
is_last k.RangeLine = true
is_last _ = false
