-- Lists of all elements of a protocol, and of all its steps with their values.
use Rattle.std.specs.Prelude.{◌≡◌, ◌≤◌, List, length, map}
use Rattle.pb_protocol_tree.specs.Form.{ProtocolForm}
use Rattle.pb_protocol_meaning.specs.Erase.{erase}
use Rattle.pb_protocol_unfolding.specs.Unfolding.{all_elements, instances}
use Rattle.pb_protocol_unfolder_steps.specs.declared.element.Element.{Element}
use Rattle.pb_protocol_unfolder_steps.specs.declared.instance.Instance.{Instance}
use Rattle.pb_protocol_unfolder_steps.specs.declared.limits.TheConstants.{MAX_ELEMENTS}
use Rattle.pb_protocol_unfolder_steps.specs.declared.limits.TheConstants.{MAX_WRITTEN_STEPS}
use Rattle.pb_protocol_unfolder_steps.specs.Elements.{flat_element, instance_said}
use Rattle.pb_protocol_unfolder_steps.specs.Refusals.{element_place, element_places}
use Rattle.pb_protocol_unfolder_steps.specs.Refusals.{instance_place, instance_places}
use Rattle.pb_protocol_unfolder_steps.specs.StepFaults.{placed_instance, placed_instances}

-- these are the elements of a protocol's state variables, in order, each where its variable's name
-- stands, and no more than there may be
pub record AreElementsOf (m : ProtocolForm) (elements : List Element) : Type 0 where
  pub all : map flat_element elements ≡ all_elements (erase m)
  pub places : map element_place elements ≡ element_places m
  pub few : length elements ≤ MAX_ELEMENTS

-- these are a protocol's steps with the values of their own variables, in order, each where the
-- step's name stands, and no more than there may be
pub record AreInstancesOf (m : ProtocolForm) (steps : List Instance) : Type 0 where
  pub all : map instance_said steps ≡ instances (erase m)
  pub places : map instance_place steps ≡ instance_places m
  pub forms : map placed_instance steps ≡ placed_instances m
  pub few : length steps ≤ MAX_WRITTEN_STEPS
