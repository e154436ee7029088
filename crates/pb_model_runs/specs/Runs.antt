-- Runs of a model: one step after another, each taken where it can be.
use Rattle.std.specs.Prelude.{◌≡◌, ℕ, zero, suc, true, ⊤, List, [], ◌∷◌, ◌++◌, Contains}
use Rattle.pb_base_values.specs.Carrier.{Tuple, tuples}
use Rattle.pb_text_meaning.specs.Syntax.{Name}
use Rattle.pb_text_meaning.specs.Formula.{carriers_of}
use Rattle.pb_model_meaning.specs.Syntax.{Step, Model}
use Rattle.pb_model_meaning.specs.Steps.{State, data_of, is_enabled, is_state, initial_state}
use Rattle.pb_model_meaning.specs.Steps.{next_state, successors_by}

-- A step of the model leads from a state to the one after, by these values of its own variables, at
-- which its guard is true. The state after may be out of the ranges.
pub record Leads (m : Model) (s : State) (a : Step) (own : Tuple) (after : State) : Type 0 where
  pub step : Contains m.steps a
  pub values : Contains (tuples (carriers_of (data_of m) a.variables)) own
  pub enabled : is_enabled m s a own ≡ true
  pub next : next_state m s a own ≡ after

-- a step that is taken: its name, the values of its own variables, and the state to which it leads
pub record Move : Type 0 where
  pub name : Name
  pub own : Tuple
  pub state : State

abbrev pub IsMove : Model → State → Move → Type 0
IsMove m s x = (a : Step) × (a.name ≡ x.name) × Leads m s a x.own x.state

-- a run from a state
abbrev pub IsRun : Model → State → List Move → Type 0
IsRun m s [] = ⊤
IsRun m s (x ∷ path) = IsMove m s x × IsRun m x.state path

-- where it ends
abbrev pub last_state : State → List Move → State
last_state s [] = s
last_state s (x ∷ path) = last_state x.state path

-- a run from the initial state, which is within the ranges, to a state within them
pub record IsRunOf (m : Model) (path : List Move) : Type 0 where
  pub begins : is_state m (initial_state m) ≡ true
  pub run : IsRun m (initial_state m) path
  pub ends : is_state m (last_state (initial_state m) path) ≡ true

-- a run that can go round for ever: behind its stem it comes back to where the stem ends
pub record IsLasso (m : Model) (s : State) (stem loop : List Move) : Type 0 where
  pub run : IsRun m s (stem ++ loop)
  pub back : last_state s (stem ++ loop) ≡ last_state s stem

-- a loop, as often as one wants
abbrev pub rounds : ℕ → List Move → List Move
rounds zero loop = []
rounds (suc n) loop = loop ++ rounds n loop

-- a step leads just to its successors
abbrev pub StepsLeadToSuccessors : Type 0
StepsLeadToSuccessors =
    (m : Model) (s : State) (a : Step) (own : Tuple) (after : State) → Leads m s a own after
    → Contains (successors_by m s a) after

-- a lasso is a run however often it goes round
abbrev pub LassosGoRound : Type 0
LassosGoRound =
    (m : Model) (s : State) (stem loop : List Move) → IsLasso m s stem loop
    → (n : ℕ) → IsRun m s (stem ++ rounds n loop)
