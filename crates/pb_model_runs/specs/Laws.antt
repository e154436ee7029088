-- What the calls of a property's text show of the model.
use Rattle.std.specs.Prelude.{◌≡◌, true, List, [], map, Contains, MatchOption}
use Rattle.pb_text_tree.specs.declared.place.Place.{Place}
use Rattle.pb_sorts.specs.Instance.{Instance}
use Rattle.pb_model_tree.specs.Form.{FormulaForm, ModelForm}
use Rattle.pb_model_meaning.specs.Syntax.{StepSet}
use Rattle.pb_model_meaning.specs.Erase.{erase, erased_step}
use Rattle.pb_model_meaning.specs.Steps.{State, is_state, successors}
use Rattle.pb_model_translation.specs.Apart.{HasNamesApart}
use Rattle.pb_model_translation.specs.Placed.{every_step_form, placed}
use Rattle.pb_typing_calls.specs.MadeCalls.{MadeCall, calls_at}
use Rattle.pb_model_runs.specs.Runs.{IsRun, Leads, Move}
use Rattle.pb_model_runs.specs.Exact.{stand_apart, step_at}
use Rattle.pb_model_runs.specs.Shown.{AreMade, AreSpokenOf, AreStates, Follows, IsMoveCall}

-- A call that is made at a state is a move: by a step whose name stands there, of which a modality
-- of the formula speaks, and by just the call's values of its own variables; or it stays.
abbrev pub CallsAreMoves : Type 0
CallsAreMoves =
    (m : ModelForm) (here : Place) (f : FormulaForm) (i : Instance) (c : MadeCall) →
    HasNamesApart (erase m) → is_state (erase m) i.values ≡ true →
    Contains (calls_at (placed m here f) i) c → IsMoveCall m f i.values c

-- Where places are apart, the first step that stands at the call's place is the one that leads
-- there, and where it is no step's name the state stays.
abbrev pub TellsJustTheStep : Type 0
TellsJustTheStep =
    (m : ModelForm) (here : Place) (f : FormulaForm) (i : Instance) (c : MadeCall) →
    HasNamesApart (erase m) → stand_apart m f ≡ true → is_state (erase m) i.values ≡ true →
    Contains (calls_at (placed m here f) i) c →
    MatchOption (step_at m c.place) ((c.own ≡ []) × (c.instance.values ≡ i.values))
    (λ a. Leads (erase m) i.values (erased_step a) c.own c.instance.values)

-- in the text of every step a state's calls are all its successors, in their order
abbrev pub EveryStepIsCalled : Type 0
EveryStepIsCalled =
    (m : ModelForm) (here p : Place) (s : State) → HasNamesApart (erase m) →
    is_state (erase m) s ≡ true →
    map (λ c. c.instance.values)
    (calls_at (placed m here (every_step_form p)) (record { equation = 0; values = s }))
    ≡ successors (erase m) StepSet.All s

-- so no step can be taken exactly where that text makes no call
abbrev pub NoCallMeansNoStep : Type 0
NoCallMeansNoStep =
    (m : ModelForm) (here p : Place) (s : State) → HasNamesApart (erase m) →
    is_state (erase m) s ≡ true →
    let calls : List MadeCall =
    calls_at (placed m here (every_step_form p)) (record { equation = 0; values = s }) in
    (calls ≡ [] → successors (erase m) StepSet.All s ≡ [])
    × (successors (erase m) StepSet.All s ≡ [] → calls ≡ [])

-- lines, each of which names the next by a call that it makes, are a run of the model
abbrev pub LinesAreRuns : Type 0
LinesAreRuns =
    (m : ModelForm) (here : Place) (f : FormulaForm) (i : Instance) (calls : List MadeCall) →
    HasNamesApart (erase m) → AreStates m i calls → AreMade (placed m here f) i calls →
    (path : List Move) × IsRun (erase m) i.values path × Follows m i.values calls path
    × AreSpokenOf f path
