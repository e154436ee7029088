-- Runs that wait for q while p: what until and weak until say of the states before the last.
use Rattle.std.specs.Prelude.{◌≡◌, true, false, ⊤, List, [], ◌∷◌}
use Rattle.pb_model_meaning.specs.Syntax.{Formula, Model}
use Rattle.pb_model_meaning.specs.Steps.{State}
use Rattle.pb_model_meaning.specs.Satisfaction.{Valuation, satisfying}
use Rattle.pb_model_runs.specs.Runs.{Move}

-- p is true and q false in each state of a run before its last
abbrev pub WaitsAlong : Model → Valuation → Formula → Formula → State → List Move → Type 0
WaitsAlong m ρ p q s [] = ⊤
WaitsAlong m ρ p q s (x ∷ path) =
    (satisfying m ρ p s ≡ true) × (satisfying m ρ q s ≡ false) × WaitsAlong m ρ p q x.state path
