use Rattle.std.proofs.Common.{◌≡◌, ◌++◌, ◌∷◌, [], map, flat_map, length}
use Rattle.pb_model_meaning.specs.Syntax.{Formula}
use Rattle.pb_protocol_folding.specs.Places.{AreAmong}
use Rattle.pb_protocol_unfolder.specs.Links.{folded_chain, linked_formula}
use Rattle.pb_protocol_unfolder.specs.Places.{flat_link_places}
use Rattle.pb_protocol_unfolder.proofs.chain.joined_links.Given as goal

-- what is joined stands behind the links that are left
abbrev pub invariant-loop-before : goal.invariant-loop-before
invariant-loop-before l = record {
  formula :
      (f : Formula)
      → folded_chain l.connective f (map linked_formula l.fn.links.items ++ linked_formula l.fn.last ∷ [])
      ≡ folded_chain l.connective f (map linked_formula l.links.items ++ linked_formula l.last ∷ []);
  places :
      AreAmong (flat_map flat_link_places l.links.items ++ flat_link_places l.last) (flat_map flat_link_places l.fn.links.items ++ flat_link_places l.fn.last);
}

abbrev pub decreases-loop-before : goal.decreases-loop-before
decreases-loop-before l = length l.links.items
