use Rattle.std.proofs.Common.{◌≡◌, map, take}
use Rattle.pb_protocol_unfolding.specs.Unfolding as definitions
use Rattle.pb_protocol_whole_steps.specs.View.{name_bytes}
use Rattle.pb_protocol_unfolder_steps.specs.Elements.{flat_element}
use Rattle.pb_protocol_unfolder_steps.proofs.element.element_names.Given as goal

abbrev pub invariant-loop-element : goal.invariant-loop-element
invariant-loop-element l = map name_bytes l.names.items ≡ map definitions.name_of (map flat_element (take l.element-index l.elements))
