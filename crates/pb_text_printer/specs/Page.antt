-- A page that words are written on: the text so far, and whether a space may go before the next
-- word.
use Rattle.std.specs.Prelude.{ℕ, Bool, false, ◌&&◌, if◌then◌else◌, List, [], ◌∷◌, ◌++◌}
use Rattle.std.specs.Prelude.{string_bytes}
use Rattle.pb_text_printer.specs.declared.writer.Writer.{Writer}
use Rattle.pb_text_printer.specs.Words.{Word}

pub record Page : Type 0 where
  pub bytes : List ℕ
  pub gap : Bool

abbrev pub page : Writer → Page
page w = record { bytes = string_bytes w.text; gap = w.gap }

-- with a token behind the text, whether a space may go before it and behind it
abbrev pub typed : Bool → Bool → List ℕ → Page → Page
typed spaced gap token p =
    record { bytes = p.bytes ++ ((if spaced && p.gap then 32 ∷ [] else []) ++ token); gap = gap }

-- with the line ended
abbrev pub ended : Page → Page
ended p = record { bytes = p.bytes ++ 10 ∷ []; gap = p.gap }

-- at the beginning of a line
abbrev pub broken : Page → Page
broken p = record { bytes = p.bytes ++ 10 ∷ []; gap = false }

abbrev pub with_word : Word → Page → Page
with_word w p =
    if w.ends_line then ended (typed w.spaced w.gap w.text p) else typed w.spaced w.gap w.text p

-- with these words behind the text
abbrev pub after : List Word → Page → Page
after [] p = p
after (w ∷ ws) p = after ws (with_word w p)
