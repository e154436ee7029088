use Rattle.std.proofs.Common.{◌≡◌, map, take, string_bytes}
use Rattle.pb_protocol_unfolder_steps.specs.Elements.{flat_element}
use Rattle.pb_protocol_unfolder.specs.Told.{told_element}
use Rattle.pb_protocol_unfolder.proofs.origin.told_elements.Given as goal

abbrev pub invariant-loop-element : goal.invariant-loop-element
invariant-loop-element l = map string_bytes l.names.items ≡ map told_element (map flat_element (take l.element-index l.elements))
