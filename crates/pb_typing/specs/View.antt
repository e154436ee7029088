-- The program's polarities, as the definitions name them.
use Rattle.std.specs.Prelude.{Bool, true, false}
use Rattle.pb_typing.specs.declared.polarity.Polarity.{Polarity}
use Rattle.pb_typing.specs.declared.polarity.Polarity.TheVariants.{Positive, Negative}

-- whether the negations around are even in number
abbrev pub is_positive : Polarity → Bool
is_positive Positive = true
is_positive Negative = false
