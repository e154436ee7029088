-- A counter whose step leaves its range, and a property whose text calls nothing outside: the test
-- in front of the modality decides.
use Rattle.std.specs.Prelude.{codes}
use Rattle.pb_fixpoint.specs.declared.Sign.TheVariants.{Mu}
use Rattle.pb_text_meaning.specs.Syntax.{Operator, Term}
use Rattle.pb_model_meaning.specs.Syntax.{StepSet, Formula}
use Rattle.pb_model_meaning.specs.Examples.{n, X, greatest}

-- n == 1
abbrev pub is_one : Formula
is_one = Formula.Data (Term.Binary Operator.Equal (Term.Named n) (Term.Number 1))

-- nu X . n == 1 && [true] X
abbrev pub stays_one : Formula
stays_one = greatest (Formula.And is_one (Formula.Box StepSet.All X))

-- its negation, mu X . !(n == 1) || <true> X
abbrev pub leaves_one : Formula
leaves_one =
    Formula.Fixpoint Mu (codes "X")
    (Formula.Or (Formula.Not is_one) (Formula.Diamond StepSet.All X))
