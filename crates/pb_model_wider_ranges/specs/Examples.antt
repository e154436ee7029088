-- A counter whose step leaves its range, and the same in a wider range.
use Rattle.std.specs.Prelude.{[], ◌∷◌, codes, pos}
use Rattle.pb_text_meaning.specs.Syntax.{Operator, Term}
use Rattle.pb_model_meaning.specs.Syntax.{StepSet, Formula, Model}
use Rattle.pb_model_meaning.specs.Examples.{n, leaving}
use Rattle.pb_model_wider_ranges.specs.Ranges.{with_ranges}

-- %range Int 0 1, in place of %range Int 0 0
abbrev pub wider : Model
wider = with_ranges (record { name = codes "Int"; low = pos 0; high = pos 1 } ∷ []) leaving

-- <true> n == 1
abbrev pub reaches_one : Formula
reaches_one =
    Formula.Diamond StepSet.All
    (Formula.Data (Term.Binary Operator.Equal (Term.Named n) (Term.Number 1)))
