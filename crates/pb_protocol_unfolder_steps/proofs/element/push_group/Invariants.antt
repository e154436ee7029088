use Rattle.std.proofs.Common.{◌≡◌, ◌≤◌, ◌++◌, length, map, flat_map, drop}
use Rattle.pb_protocol_unfolder_terms.specs.View.{spec_of}
use Rattle.pb_protocol_unfolder_steps.specs.Elements.{flat_element, elements_of_variable, elements_of_group}
use Rattle.pb_protocol_unfolder_steps.specs.Refusals.{element_place, places_of_group, places_of_variable}
use Rattle.pb_protocol_unfolder_steps.proofs.element.push_group.Given as goal

-- what is still to be added stands behind what is added
abbrev pub invariant-loop-variable : goal.invariant-loop-variable
invariant-loop-variable l = record {
  added : map flat_element l.elements.items
      ++ flat_map (elements_of_variable (spec_of l.sorts) l.group.sort) (drop l.variable-index l.group.variables.items)
      ≡ map flat_element l.initial.elements.items ++ elements_of_group (spec_of l.sorts) l.group;
  places : map element_place l.elements.items
      ++ flat_map (places_of_variable (spec_of l.sorts) l.group.sort) (drop l.variable-index l.group.variables.items)
      ≡ map element_place l.initial.elements.items ++ places_of_group (spec_of l.sorts) l.group;
  few : length l.elements.items ≤ 64;
}
