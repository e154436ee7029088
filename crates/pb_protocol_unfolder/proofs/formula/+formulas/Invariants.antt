use Rattle.std.proofs.Common.{◌≡◌, ◌+◌, map, flat_map, take, drop}
use Rattle.std.specs.Prelude.{box_value, sum_by}
use Rattle.pb_protocol_folding.specs.Places.{AreAmong, places_of}
use Rattle.pb_protocol_folding.specs.View.{formula_of}
use Rattle.pb_protocol_unfolder.specs.Copies.{copy_of, copy_operators, left_operand, link_operators}
use Rattle.pb_protocol_unfolder.specs.Links.{linked_formula}
use Rattle.pb_protocol_unfolder.specs.Places.{flat_link_places, link_places, places_in}
use Rattle.pb_protocol_unfolder.proofs.formula.+formulas.Given as goal

abbrev pub invariant-unfold_copies-loop-values : goal.invariant-unfold_copies-loop-values
invariant-unfold_copies-loop-values l = record {
  formulas : map formula_of l.unfolded.items ≡ map (copy_of l.formulas l.copies (box_value l.body)) (take l.values-index l.tuples);
  places : AreAmong (flat_map places_of l.unfolded.items) (places_in (box_value l.body));
  room : l.initial.room.operators + sum_by (copy_operators l.formulas l.copies (box_value l.body)) (drop l.values-index l.tuples)
      ≡ l.room.operators + sum_by (copy_operators l.formulas l.copies (box_value l.body)) l.tuples;
}

abbrev pub invariant-unfold_links-loop-link : goal.invariant-unfold_links-loop-link
invariant-unfold_links-loop-link l = record {
  formulas : map linked_formula l.flat_links.items ≡ map (left_operand l.formulas l.scope.names) (take l.link-index l.links);
  places : AreAmong (flat_map flat_link_places l.flat_links.items) (flat_map link_places (take l.link-index l.links));
  room : l.initial.room.operators + sum_by (link_operators l.formulas l.scope.names) (drop l.link-index l.links)
      ≡ l.room.operators + sum_by (link_operators l.formulas l.scope.names) l.links;
}
