use Rattle.std.proofs.Common.{◌≡◌, ◌++◌, drop, map}
use Rattle.pb_protocol_packer.specs.Scopes.{table_of}
use Rattle.pb_protocol_packer.specs.Properties.{properties_in, property_said, property_names, property_shapes}
use Rattle.pb_protocol_packer.proofs.properties.packed_properties.Given as goal

abbrev pub invariant-loop-property : goal.invariant-loop-property
invariant-loop-property l =
    let σ = table_of l.packing.table.now in
    (properties_in l.packed.items ++ map (property_said σ) (properties_in (drop l.property-index l.properties)) ≡ map (property_said σ) (properties_in l.properties))
    × (property_names l.packed.items ++ property_names (drop l.property-index l.properties) ≡ property_names l.properties)
    × (property_shapes l.packed.items ++ property_shapes (drop l.property-index l.properties) ≡ property_shapes l.properties)
