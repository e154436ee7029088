-- Places of a protocol that was read, and of the models that it becomes.
use Rattle.std.specs.Prelude.{◌≡◌, ◌<◌, ◌⊎◌, ℕ, zero, suc, Bool, true, not, ◌&&◌}
use Rattle.std.specs.Prelude.{List, [], ◌∷◌, ◌++◌, map, flat_map, Contains, MatchOption}
use Rattle.std.specs.List.{list_all}
use Rattle.pb_sorts.specs.Instance.{Instance}
use Rattle.pb_text_tree.specs.declared.place.Place.{Place}
use Rattle.pb_model_tree.specs.Form as flat
use Rattle.pb_protocol_tree.specs.Form.{FormulaForm, StepForm, PropertyForm, ProtocolForm}
use Rattle.pb_protocol_tree.specs.Form.{ModelTextForm}
use Rattle.pb_model_text.specs.Parsing.{IsModelReading}
use Rattle.pb_model_meaning.specs.Erase.{erase, erased_step}
use Rattle.pb_model_meaning.specs.Steps.{is_state}
use Rattle.pb_model_translation.specs.Apart.{HasNamesApart}
use Rattle.pb_model_translation.specs.Placed.{placed}
use Rattle.pb_typing_calls.specs.MadeCalls.{MadeCall, calls_at}
use Rattle.pb_model_runs.specs.Runs.{Leads}
use Rattle.pb_model_runs.specs.Exact as model
use Rattle.pb_model_runs.specs.Exact.{is_among, are_apart, step_at}

-- ---- places of a protocol

-- where a formula goes on in the same state: at its fixpoints and at their variables
abbrev pub formula_places : FormulaForm → List Place
formula_places (FormulaForm.constant p b) = []
formula_places (FormulaForm.«data» p x) = []
formula_places (FormulaForm.variable x) = x.place ∷ []
formula_places (FormulaForm.negation p f) = formula_places f
formula_places (FormulaForm.connected c p f g) = formula_places f ++ formula_places g
formula_places (FormulaForm.modal k p A f) = formula_places f
formula_places (FormulaForm.fixpoint sign p x f) = p ∷ formula_places f
formula_places (FormulaForm.quantified q p xs f) = formula_places f

abbrev pub step_places : List StepForm → List Place
step_places = map (λ (a : StepForm). a.name.place)

abbrev pub property_places : PropertyForm → List Place
property_places p = formula_places p.formula

-- no two steps have their names at one place, and none has it where the formula goes on
abbrev pub protocol_stands_apart : ProtocolForm → FormulaForm → Bool
protocol_stands_apart m f =
    are_apart (step_places m.steps)
    && list_all (λ p. not (is_among (step_places m.steps) p)) (formula_places f)

-- ---- laws

abbrev pub ReadProtocolsStandApart : Type 0
ReadProtocolsStandApart =
    (bytes : List ℕ) (t : ModelTextForm) (p : PropertyForm) → IsModelReading bytes t →
    Contains t.protocol.properties p → protocol_stands_apart t.protocol p.formula ≡ true

-- so does a model whose steps and formula have the places of a protocol's
abbrev pub KeptPlacesStandApart : Type 0
KeptPlacesStandApart =
    (m : ProtocolForm) (f : FormulaForm) (n : flat.ModelForm) (g : flat.FormulaForm) →
    protocol_stands_apart m f ≡ true → model.step_places n.steps ≡ step_places m.steps →
    model.formula_places g ≡ formula_places f → model.stand_apart n g ≡ true

-- the names of a protocol's steps, and where its properties go on, stand at columns from 1 on
abbrev pub ReadPlacesHaveColumns : Type 0
ReadPlacesHaveColumns =
    (bytes : List ℕ) (t : ModelTextForm) (p : Place) → IsModelReading bytes t →
    Contains (step_places t.protocol.steps) p
    ⊎ Contains (flat_map property_places t.protocol.properties) p → 0 < p.column

-- so many places from a line on, each on a line of its own, at column 0
abbrev pub lines_from : ℕ → ℕ → List Place
lines_from line zero = []
lines_from line (suc n) = record { line = line; column = 0 } ∷ lines_from (suc line) n

-- A model stands apart whose steps have their names at such places, where each place of the formula
-- is one of a property of a protocol that was read.
abbrev pub NumberedStepsStandApart : Type 0
NumberedStepsStandApart =
    (bytes : List ℕ) (t : ModelTextForm) (p : PropertyForm) (n : flat.ModelForm)
    (g : flat.FormulaForm) (line count : ℕ) → IsModelReading bytes t →
    Contains t.protocol.properties p →
    model.step_places n.steps ≡ lines_from line count →
    ((q : Place) → Contains (model.formula_places g) q → Contains (formula_places p.formula) q) →
    model.stand_apart n g ≡ true

-- In the text of a property of a model that stands apart the place of a call that is made tells the
-- step: it leads there, by just the call's values of its own variables. Where no step's name stands
-- there, the state stays.
abbrev pub PlacesTellSteps : Type 0
PlacesTellSteps =
    (m : flat.ModelForm) (p : flat.PropertyForm) (i : Instance) (c : MadeCall) →
    model.stand_apart m p.formula ≡ true → HasNamesApart (erase m) →
    is_state (erase m) i.values ≡ true →
    Contains (calls_at (placed m p.name.place p.formula) i) c →
    MatchOption (step_at m c.place) ((c.own ≡ []) × (c.instance.values ≡ i.values))
    (λ a. Leads (erase m) i.values (erased_step a) c.own c.instance.values)
