-- Lists are those of all elements of a protocol, or of all its steps with their values.
use Rattle.std.proofs.Common.{◌≡◌, ◌≤◌, ◌∙◌, List, length, map, Result, Ok, Err}
use Rattle.std.specs.Prelude.{IfOk}
use Rattle.pb_text_tree.specs.declared.place.Place.{Place}
use Rattle.pb_protocol_tree.specs.Form.{ProtocolForm}
use Rattle.pb_protocol_meaning.specs.Erase.{erase}
use Rattle.pb_protocol_unfolding.specs.Unfolding as definitions
use Rattle.pb_protocol_unfolder_steps.specs.declared.limits.TheConstants.{MAX_WRITTEN_STEPS}
use Rattle.pb_protocol_unfolder_steps.specs.declared.element.Element as declared_element
use Rattle.pb_protocol_unfolder_steps.specs.declared.instance.Instance as declared_instance
use Rattle.pb_protocol_unfolder_steps.specs.Elements.{flat_element, instance_said}
use Rattle.pb_protocol_unfolder_steps.specs.Refusals.{element_place, element_places, instance_place, instance_places}
use Rattle.pb_protocol_unfolder_steps.specs.StepFaults.{PlacedInstance, placed_instance, placed_instances}
use Rattle.pb_protocol_unfolder_steps.specs.Written.{AreElementsOf, AreInstancesOf}

pub are-elements : {V E : Type 0} (m : ProtocolForm) (result : Result V E) (items : V → List declared_element.Element) (es : List definitions.Element) (ps : List Place)
    → es ≡ definitions.all_elements (erase m) → ps ≡ element_places m
    → IfOk result (λ v. map flat_element (items v) ≡ es) → IfOk result (λ v. map element_place (items v) ≡ ps) → IfOk result (λ v. length (items v) ≤ 64)
    → IfOk result (λ v. AreElementsOf m (items v))
are-elements m (Ok v) items es ps same-es same-ps all places few = record { all = all ∙ same-es; places = places ∙ same-ps; few = few }
are-elements m (Err e) items es ps same-es same-ps all places few = tt

pub are-instances : {V E : Type 0} (m : ProtocolForm) (result : Result V E) (items : V → List declared_instance.Instance)
    (is : List definitions.Instance) (ps : List Place) (fs : List PlacedInstance) → is ≡ definitions.instances (erase m) → ps ≡ instance_places m → fs ≡ placed_instances m
    → IfOk result (λ v. map instance_said (items v) ≡ is) → IfOk result (λ v. map instance_place (items v) ≡ ps) → IfOk result (λ v. map placed_instance (items v) ≡ fs)
    → IfOk result (λ v. length (items v) ≤ MAX_WRITTEN_STEPS) → IfOk result (λ v. AreInstancesOf m (items v))
are-instances m (Ok v) items is ps fs same-is same-ps same-fs all places forms few =
    record { all = all ∙ same-is; places = places ∙ same-ps; forms = forms ∙ same-fs; few = few }
are-instances m (Err e) items is ps fs same-is same-ps same-fs all places forms few = tt
