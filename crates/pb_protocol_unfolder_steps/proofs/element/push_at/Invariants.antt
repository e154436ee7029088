use Rattle.std.proofs.Common.{◌≡◌, ◌++◌, map}
use Rattle.pb_protocol_unfolder_terms.specs.Values.{tuple_of}
use Rattle.pb_protocol_unfolder_steps.specs.Elements.{element_at, flat_element}
use Rattle.pb_protocol_unfolder_steps.specs.Refusals.{element_place, each_at}
use Rattle.pb_protocol_unfolder_steps.proofs.element.push_at.Given as goal

abbrev pub invariant-loop-index : goal.invariant-loop-index
invariant-loop-index l = record {
  elements : map flat_element l.elements.items ≡ map flat_element l.initial.elements.items ++ map (element_at l.name l.sort) (map tuple_of l.yielded);
  places : map element_place l.elements.items ≡ map element_place l.initial.elements.items ++ each_at l.name.place l.yielded;
}
