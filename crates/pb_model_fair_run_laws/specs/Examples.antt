-- The two processes of the lock, and what process 1, which is trying, doesn't reach on fair paths.
use Rattle.std.specs.Prelude.{List, [], ◌∷◌, codes}
use Rattle.pb_model_meaning.specs.Examples.{critical, p, same}
use Rattle.pb_model_meaning.specs.Syntax.{StepSet, Formula}

abbrev pub first : StepSet
first =
    StepSet.Union (StepSet.Only (codes "try1"))
    (StepSet.Union (StepSet.Only (codes "enter1")) (StepSet.Only (codes "leave1")))

abbrev pub second : StepSet
second =
    StepSet.Union (StepSet.Only (codes "try2"))
    (StepSet.Union (StepSet.Only (codes "enter2")) (StepSet.Only (codes "leave2")))

abbrev pub processes : List StepSet
processes = first ∷ second ∷ []

-- process 1 is in
abbrev pub is_in : Formula
is_in = Formula.Data (same p critical)
