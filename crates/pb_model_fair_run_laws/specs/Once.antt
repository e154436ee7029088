-- What is so somewhere on a path, as in each round of a loop.
use Rattle.std.specs.Prelude.{◌⊎◌, List, [], ◌∷◌}
use Rattle.pb_model_meaning.specs.Steps.{State}
use Rattle.pb_model_runs.specs.Runs.{Move}

-- it is so of one of the moves of a path from s, and of the state before that move
abbrev pub Once : (State → Move → Type 0) → State → List Move → Type 0
Once G s [] = ⊥
Once G s (x ∷ path) = G s x ⊎ Once G x.state path
