-- What the errors say.
use Rattle.std.specs.Prelude.{Result, Ok, Err}
use Rattle.pb_base.specs.declared.or_memory.OrMemory.{OrMemory}
use Rattle.pb_base.specs.declared.or_memory.OrMemory.TheVariants.{Refused, Memory}
use Rattle.pb_lifting.specs.declared.lift_error.TooManyRanks.{TooManyRanks}

-- the answer is that the ranks are more than a word has
abbrev pub IsTooMany : {A : Type 0} → Result A (OrMemory TooManyRanks) → Type 0
IsTooMany (Ok x) = ⊥
IsTooMany (Err (Refused fault)) = Unit {0}
IsTooMany (Err Memory) = ⊥
