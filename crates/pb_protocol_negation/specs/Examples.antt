-- Properties of two caches of one line and of a counter that leaves its range, and their negations.
use Rattle.std.specs.Prelude.{false, codes, ◌∷◌, [], None}
use Rattle.pb_fixpoint.specs.declared.Sign.TheVariants.{Mu}
use Rattle.pb_text_tree.specs.declared.operator.Quantifier.TheVariants.{Exists}
use Rattle.pb_text_meaning.specs.Syntax.{Operator, Term}
use Rattle.pb_model_meaning.specs.Examples.{both, same, n}
use Rattle.pb_protocol_meaning.specs.Syntax.{StepSet, Formula}
use Rattle.pb_protocol_meaning.specs.Examples.{c, d, cache, line_is, modified}

-- mu X . (exists c, d: Cache . !!(line(c) == modified && line(d) == modified) && !(c == d))
--   || <true> X
abbrev pub two_writers : Formula
two_writers =
    Formula.Fixpoint Mu (codes "X")
    (Formula.Or
    (Formula.Quantified Exists (cache c ∷ cache d ∷ [])
    (Formula.And
    (Formula.Not
    (Formula.Not (Formula.Data (both (line_is c modified) (line_is d modified)))))
    (Formula.Not (Formula.Data (same c d)))))
    (Formula.Diamond StepSet.All (Formula.Named (codes "X"))))

-- [read(_)] false
abbrev pub no_read : Formula
no_read = Formula.Box (StepSet.With (codes "read") (None ∷ [])) (Formula.Truth false)

-- [true] n == 0, of a step that leaves the range
abbrev pub stays_zero : Formula
stays_zero =
    Formula.Box StepSet.All
    (Formula.Data (Term.Binary Operator.Equal (Term.Named n) (Term.Number 0)))
