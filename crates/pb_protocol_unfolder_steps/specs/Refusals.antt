-- Where the state or the steps of a protocol are refused.
use Rattle.std.specs.Prelude.{◌≡◌, ◌<◌, ℕ, List, map, flat_map, Some}
use Rattle.std.specs.List.{slice_get}
use Rattle.pb_text_tree.specs.declared.name.Name as declared_name
use Rattle.pb_text_tree.specs.declared.place.Place.{Place}
use Rattle.pb_text_meaning.specs.Syntax.{Spec}
use Rattle.pb_protocol_tree.specs.declared.protocol.StateVariable as declared_variable
use Rattle.pb_protocol_tree.specs.declared.protocol.StateVariables as declared_state
use Rattle.pb_protocol_tree.specs.declared.step.Step as declared_step
use Rattle.pb_protocol_tree.specs.Form.{StateVariableForm, StepForm, ProtocolForm}
use Rattle.pb_protocol_meaning.specs.Syntax.{Protocol}
use Rattle.pb_protocol_meaning.specs.Erase.{erase, erased_state_variable, erased_step}
use Rattle.pb_protocol_meaning.specs.Steps.{data_of}
use Rattle.pb_protocol_unfolding.specs.Unfolding.{elements_of, instances_of}
use Rattle.pb_protocol_unfolder_steps.specs.declared.element.Element as declared_element
use Rattle.pb_protocol_unfolder_steps.specs.declared.instance.Instance as declared_instance
use Rattle.pb_protocol_unfolder_steps.specs.declared.fault.StepsFault.{StepsFault}
use Rattle.pb_protocol_unfolder_steps.specs.declared.fault.StepsFault.TheVariants as fault
use Rattle.pb_protocol_unfolder_steps.specs.Elements.{elements_of_variable, instances_of_step}

-- ---- where what is written out stands

-- each of these at one place
abbrev pub each_at : {A : Type 0} → Place → List A → List Place
each_at p xs = map (λ _. p) xs

-- an element stands where its state variable's name does
abbrev pub places_of_elements : Spec → StateVariableForm → List Place
places_of_elements spec y = each_at y.name.place (elements_of spec (erased_state_variable y))

abbrev pub element_places : ProtocolForm → List Place
element_places m = flat_map (places_of_elements (data_of (erase m))) m.variables

-- a step with its values stands where the step's name does
abbrev pub places_of_instances : Protocol → StepForm → List Place
places_of_instances m a = each_at a.name.place (instances_of m (erased_step a))

abbrev pub instance_places : ProtocolForm → List Place
instance_places m = flat_map (places_of_instances (erase m)) m.steps

-- ---- of the trees

abbrev pub element_place : declared_element.Element → Place
element_place e = e.name.now.place

abbrev pub places_of_variable :
    Spec → declared_name.Name → declared_variable.StateVariable → List Place
places_of_variable spec sort y = each_at y.name.place (elements_of_variable spec sort y)

abbrev pub places_of_group : Spec → declared_state.StateVariables → List Place
places_of_group spec group =
    flat_map (places_of_variable spec group.sort) group.variables.items

abbrev pub places_of_state : Spec → List declared_state.StateVariables → List Place
places_of_state spec state = flat_map (places_of_group spec) state

abbrev pub instance_place : declared_instance.Instance → Place
instance_place i = i.step.now.name.place

abbrev pub places_of_step : Protocol → declared_step.Step → List Place
places_of_step m a = each_at a.name.place (instances_of_step m a)

abbrev pub places_of_steps : Protocol → List declared_step.Step → List Place
places_of_steps m steps = flat_map (places_of_step m) steps

-- ---- faults

-- there are more than the limit, which is passed at the place
abbrev pub IsPassed : ℕ → ℕ → Place → StepsFault → Type 0
IsPassed limit count place f = (f ≡ fault.Limit place) × (limit < count)

-- of what stands at these places the first that is past the limit stands at the fault's
abbrev pub IsPassedIn : ℕ → List Place → StepsFault → Type 0
IsPassedIn limit places (fault.Limit place) = slice_get places limit ≡ Some place
IsPassedIn limit places (fault.Term f) = ⊥
