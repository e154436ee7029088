use Rattle.std.proofs.Common.{◌≡◌, ◌++◌, drop, flat_map}
use Rattle.pb_protocol_packer.specs.Properties.{properties_in}
use Rattle.pb_protocol_groups.specs.Names.{names_in_property}
use Rattle.pb_protocol_packer.specs.Initial.{names_by}
use Rattle.pb_protocol_groups.proofs.model_names.push_properties.Given as goal

abbrev pub invariant-loop-property : goal.invariant-loop-property
invariant-loop-property l =
    names_by l.names.items ++ flat_map names_in_property (properties_in (drop l.property-index l.properties))
    ≡ names_by l.initial.names.items ++ flat_map names_in_property (properties_in l.properties)
