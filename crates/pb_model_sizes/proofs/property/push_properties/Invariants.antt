use Rattle.std.proofs.Common.{◌≡◌, ◌++◌, drop, map}
use Rattle.std.specs.Prelude.{flat_map, option_copied, string_bytes}
use Rattle.pb_typing_declarations.specs.View.{spec_of}
use Rattle.pb_protocol_tree.specs.Form.{property_form}
use Rattle.pb_model_sizes.specs.Sizes.{asked_line}
use Rattle.pb_model_sizes.proofs.property.push_properties.Given as goal

-- the lines so far, and those of the properties that are left
abbrev pub invariant-loop-property : goal.invariant-loop-property
invariant-loop-property l =
    let line = asked_line (spec_of l.declarations) (option_copied l.name) in
    string_bytes l.initial.lines ++ flat_map line (map property_form l.properties) ≡ string_bytes l.lines ++ flat_map line (map property_form (drop l.property-index l.properties))
