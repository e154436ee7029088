use Rattle.std.proofs.Common.{◌≡◌, ◌++◌, map, drop}
use Rattle.pb_protocol_unfolding.specs.Unfolding as definitions
use Rattle.pb_protocol_unfolder_steps.specs.Elements.{flat_element}
use Rattle.pb_protocol_unfolder_steps.specs.Groups.{groups_said}
use Rattle.pb_protocol_unfolder_steps.proofs.state.flat_groups.Given as goal

-- what is still to be added stands behind what is added
abbrev pub invariant-loop-element : goal.invariant-loop-element
invariant-loop-element l = groups_said l.groups.items ++ map definitions.variable_of (map flat_element (drop l.element-index l.elements)) ≡ map definitions.variable_of (map flat_element l.elements)
