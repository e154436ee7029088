use Rattle.std.proofs.Common.{◌≡◌, ◌≤◌, ◌++◌, length, map, drop}
use Rattle.pb_protocol_unfolder_terms.specs.View.{spec_of}
use Rattle.pb_protocol_unfolder_steps.specs.Elements.{flat_element, elements_of_state}
use Rattle.pb_protocol_unfolder_steps.specs.Refusals.{element_place, places_of_state}
use Rattle.pb_protocol_unfolder_steps.proofs.element.elements_of.Given as goal

-- what is still to be added stands behind what is added
abbrev pub invariant-loop-group : goal.invariant-loop-group
invariant-loop-group l = record {
  added : map flat_element l.elements.items ++ elements_of_state (spec_of l.sorts) (drop l.group-index l.state) ≡ elements_of_state (spec_of l.sorts) l.state;
  places : map element_place l.elements.items ++ places_of_state (spec_of l.sorts) (drop l.group-index l.state) ≡ places_of_state (spec_of l.sorts) l.state;
  few : length l.elements.items ≤ 64;
}
