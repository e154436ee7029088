-- Which models are solved in a protocol's place: its own where it is plain, the unfolded one, and
-- either of them packed.
use Rattle.std.specs.Prelude.{◌≡◌, true, List, [], map, Contains}
use Rattle.pb_text_tree.specs.Form.{Named}
use Rattle.pb_model_meaning.specs.Syntax as model
use Rattle.pb_model_meaning.specs.Steps.{State}
use Rattle.pb_model_meaning.specs.Steps as model_steps
use Rattle.pb_model_meaning.specs.Erase as model_text
use Rattle.pb_model_tree.specs.Form as model_form
use Rattle.pb_model_tree.specs.Form.{ModelForm}
use Rattle.pb_protocol_tree.specs.Form.{PropertyForm, ProtocolForm}
use Rattle.pb_protocol_meaning.specs.Syntax.{Protocol, StepSet}
use Rattle.pb_protocol_meaning.specs.Steps.{successors}
use Rattle.pb_protocol_meaning.specs.Erase.{erase}
use Rattle.pb_protocol_unfolding.specs.Plain.{plain, IsPlain, PropertiesCountNothing}
use Rattle.pb_protocol_unfolding.specs.Hygiene.{HidesNothing}
use Rattle.pb_protocol_unfolding.specs.ModelLaws.{flat_model}
use Rattle.pb_protocol_packing.specs.Groups.{groups_of, packed}
use Rattle.pb_protocol_packing.specs.Packable.{IsPackable}
use Rattle.pb_protocol_packing.specs.Unpacked.{unpacked}
use Rattle.pb_protocol_laws.specs.Solved.{itself, GoesAlong, IsSolvedFor, StandsFor}

-- the names of properties, with their places
abbrev pub property_names : List PropertyForm → List Named
property_names = map (λ (p : PropertyForm). p.name)

abbrev pub model_property_names : List model_form.PropertyForm → List Named
model_property_names = map (λ (p : model_form.PropertyForm). p.name)

-- a plain protocol's own model, of which no property counts
abbrev pub PlainModelsAreSolved : Type 0
PlainModelsAreSolved =
    (protocol : ProtocolForm) (m : ModelForm) → IsPlain (model_text.erase m) →
    PropertiesCountNothing (model_text.erase m).properties →
    erase protocol ≡ plain (model_text.erase m) →
    model_property_names m.properties ≡ property_names protocol.properties →
    IsSolvedFor protocol m itself

-- the unfolded model
abbrev pub UnfoldedModelsAreSolved : Type 0
UnfoldedModelsAreSolved =
    (protocol : ProtocolForm) (m : ModelForm) → HidesNothing (erase protocol) →
    model_text.erase m ≡ flat_model (erase protocol) →
    model_property_names m.properties ≡ property_names protocol.properties →
    IsSolvedFor protocol m itself

-- a packed model, where the model may be solved
abbrev pub PackedModelsAreSolved : Type 0
PackedModelsAreSolved =
    (protocol : ProtocolForm) (m n : ModelForm) → IsSolvedFor protocol m itself →
    IsPackable (model_text.erase m) → model_text.erase n ≡ packed (model_text.erase m) →
    model_property_names n.properties ≡ model_property_names m.properties →
    IsSolvedFor protocol n (unpacked (groups_of (model_text.erase m)))

-- where a model that goes along with a protocol goes from a state, the protocol goes from the state
-- that it says
abbrev pub MovesAreTheProtocols : Type 0
MovesAreTheProtocols =
    (protocol : Protocol) (m : model.Model) (says : State → State) →
    GoesAlong protocol m says → (s t : State) → model_steps.is_state m s ≡ true →
    Contains (model_steps.successors m model.StepSet.All s) t →
    (r : State) × Contains (successors protocol [] StepSet.All (says s)) r
    × StandsFor protocol m says r t
