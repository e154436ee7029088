-- What an `Input` shows, and what it keeps.
use Rattle.std.specs.Str.{IsAscii}
use Rattle.pb_text_lexer.specs.declared.input.Input.TheInside.{Inside}
use Rattle.pb_text_lexer.specs.Grammar.{State}
use Rattle.pb_text_lexer.specs.Remaining.{remaining, IsWithin, HasDigits, HasSpelling}

abbrev pub state_of : Inside → State
state_of i = record { tokens = remaining i.language i.lexer; operators = i.operators }

abbrev pub IsConsistent : Inside → Type 0
IsConsistent i =
    IsWithin i.lexer.place i.lexer.rest.now × HasDigits i.lexer.token × HasSpelling i.lexer.token
    × IsAscii i.lexer.token.text.now
