use Rattle.std.proofs.Common.{drop}
use Rattle.pb_model_properties.proofs.AskedNames.{HasAll, names_of}
use Rattle.pb_model_properties.proofs.asked.set_of_properties.Given as goal

-- the names in the set, and those of the properties that are left
abbrev pub invariant-loop-property : goal.invariant-loop-property
invariant-loop-property l = HasAll (names_of l.properties) l.set (names_of (drop l.property-index l.properties))
