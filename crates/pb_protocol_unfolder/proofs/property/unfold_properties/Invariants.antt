use Rattle.std.proofs.Common.{◌≡◌, map, take}
use Rattle.pb_model_tree.specs.Form as flat_form
use Rattle.pb_protocol_tree.specs.Form.{property_form}
use Rattle.pb_protocol_unfolder.specs.Places.{HavePlaces}
use Rattle.pb_protocol_unfolder.specs.Unfolded.{flat_name, left_property, property_name, property_said}
use Rattle.pb_protocol_unfolder.proofs.property.unfold_properties.Given as goal

abbrev pub invariant-loop-property : goal.invariant-loop-property
invariant-loop-property l = record {
  properties : map property_said l.unfolded.items ≡ map (left_property l.formulas) (take l.property-index l.properties);
  names : map flat_name l.unfolded.items ≡ map property_name (take l.property-index l.properties);
  places : HavePlaces (map property_form l.properties) (map flat_form.property_form l.unfolded.items);
}
