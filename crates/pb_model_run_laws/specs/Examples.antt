-- A lasso of the lock, by hand: process 2 tries, goes in and leaves, and process 1 waits.
use Rattle.std.specs.Prelude.{List, [], ◌∷◌, pos, codes}
use Rattle.pb_model_meaning.specs.Syntax.{StepSet}
use Rattle.pb_model_meaning.specs.Steps.{State}
use Rattle.pb_model_runs.specs.Runs.{Move}

-- all steps but enter1
abbrev pub others : StepSet
others = StepSet.Complement (StepSet.Only (codes "enter1"))

-- process 1 is trying, process 2 idle
abbrev pub kept_out : State
kept_out = pos 1 ∷ pos 0 ∷ []

abbrev pub round : List Move
round =
    record { name = codes "try2"; own = []; state = pos 1 ∷ pos 1 ∷ [] }
    ∷ record { name = codes "enter2"; own = []; state = pos 1 ∷ pos 2 ∷ [] }
    ∷ record { name = codes "leave2"; own = []; state = pos 1 ∷ pos 0 ∷ [] }
    ∷ []
