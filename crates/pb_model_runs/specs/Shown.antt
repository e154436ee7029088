-- What the calls that a property's text makes show of the model: a step that is taken, by values of
-- its own variables, or no step, where a formula goes on to a fixpoint or its variable in the same
-- state. And so what lines show, of which each names the next by such a call.
use Rattle.std.specs.Prelude.{◌≡◌, ◌⊎◌, true, ⊤, List, [], ◌∷◌, Contains}
use Rattle.pb_text_tree.specs.Form.{SpecForm}
use Rattle.pb_sorts.specs.Instance.{Instance}
use Rattle.pb_model_tree.specs.Form.{FormulaForm, StepForm, ModelForm}
use Rattle.pb_model_meaning.specs.Erase.{erase, erased_step}
use Rattle.pb_model_meaning.specs.Steps.{State, is_state}
use Rattle.pb_typing_calls.specs.Calls.{same_place}
use Rattle.pb_typing_calls.specs.MadeCalls.{MadeCall, calls_at}
use Rattle.pb_model_runs.specs.Runs.{Leads, Move}
use Rattle.pb_model_runs.specs.Exact.{formula_places, is_among, speaks_of}

-- the step whose name stands at the call's place leads from the state to that of the instance that
-- the call names, by the values of the variables around the call
pub record IsStepCall (m : ModelForm) (s : State) (c : MadeCall) : Type 0 where
  pub step : StepForm
  pub among : Contains m.steps step
  pub named : same_place step.name.place c.place ≡ true
  pub leads : Leads (erase m) s (erased_step step) c.own c.instance.values

-- the call stands where the formula goes on, and names the same state
pub record StaysBy (f : FormulaForm) (s : State) (c : MadeCall) : Type 0 where
  pub place : is_among (formula_places f) c.place ≡ true
  pub own : c.own ≡ []
  pub state : c.instance.values ≡ s

-- a step of which a modality of the formula speaks, or none
abbrev pub IsMoveCall : ModelForm → FormulaForm → State → MadeCall → Type 0
IsMoveCall m f s c =
    ((at : IsStepCall m s c) × (speaks_of f at.step.name.text ≡ true)) ⊎ StaysBy f s c

-- ---- lines

-- each call is made where the instance before it is, from the given one on
abbrev pub AreMade : SpecForm → Instance → List MadeCall → Type 0
AreMade text i [] = ⊤
AreMade text i (c ∷ calls) = Contains (calls_at text i) c × AreMade text c.instance calls

-- all values are within the ranges
abbrev pub AreStates : ModelForm → Instance → List MadeCall → Type 0
AreStates m i [] = is_state (erase m) i.values ≡ true
AreStates m i (c ∷ calls) = (is_state (erase m) i.values ≡ true) × AreStates m c.instance calls

-- the values of the last instance
abbrev pub last_values : Instance → List MadeCall → State
last_values i [] = i.values
last_values i (c ∷ calls) = last_values c.instance calls

-- a modality of the formula speaks of each step of the run
abbrev pub AreSpokenOf : FormulaForm → List Move → Type 0
AreSpokenOf f [] = ⊤
AreSpokenOf f (x ∷ path) = (speaks_of f x.name ≡ true) × AreSpokenOf f path

-- a move is that of the step at the call's place, by the call's values, to the state that it names
pub record IsMoveOf (m : ModelForm) (s : State) (c : MadeCall) (x : Move) : Type 0 where
  pub at : IsStepCall m s c
  pub name : x.name ≡ at.step.name.text
  pub own : x.own ≡ c.own
  pub state : x.state ≡ c.instance.values

-- by each call the run takes the step at its place, or stays
abbrev pub Follows : ModelForm → State → List MadeCall → List Move → Type 0
Follows m s [] path = path ≡ []
Follows m s (c ∷ calls) path =
    ((x : Move) × (rest : List Move) × (path ≡ x ∷ rest) × IsMoveOf m s c x
    × Follows m c.instance.values calls rest)
    ⊎ ((c.own ≡ []) × (c.instance.values ≡ s) × Follows m s calls path)
