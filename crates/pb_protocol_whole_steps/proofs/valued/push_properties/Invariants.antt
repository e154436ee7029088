use Rattle.std.proofs.Common.{◌≡◌, ◌++◌, drop, map}
use Rattle.pb_protocol_tree.specs.Form.{property_form}
use Rattle.pb_protocol_meaning.specs.Erase.{erased_property}
use Rattle.pb_protocol_unfolding.specs.Whole.{valued_by}
use Rattle.pb_protocol_whole_steps.specs.View.{name_in}
use Rattle.pb_protocol_whole_steps.proofs.valued.push_properties.Given as goal

abbrev pub invariant-loop-property : goal.invariant-loop-property
invariant-loop-property l =
    map name_in l.names.items ++ valued_by (map erased_property (map property_form (drop l.property-index l.properties)))
    ≡ map name_in l.initial.names.items ++ valued_by (map erased_property (map property_form l.properties))
