use Rattle.std.proofs.Common.{◌≡◌, ◌+◌, drop, length}
use Rattle.pb_text_meaning.specs.Erase.{of_connective}
use Rattle.pb_typing_tree.specs.Tree.{Binary}
use Rattle.pb_typing_tree.specs.Meaning.{value}
use Rattle.pb_typing_tree.specs.View.{term_of_operands, chained_formula, link_views, term_view, term_views}
use Rattle.pb_typing_tree.proofs.Weight.{weight, terms_weight, links_weight}
use Rattle.pb_typing_values.specs.Slots.{slots_of}
use Rattle.pb_typing_values.proofs.Links.{chain_value, arithmetic_value, ArithmeticFits}
use Rattle.pb_typing_values.proofs.term.+terms.Given as goal

abbrev pub decreases-value : goal.decreases-value
decreases-value l = weight l.term.now

abbrev pub decreases-chain_value : goal.decreases-chain_value
decreases-chain_value l = 1 + (weight l.first.now + terms_weight l.links.now)

abbrev pub decreases-arithmetic_value : goal.decreases-arithmetic_value
decreases-arithmetic_value l = 1 + (weight l.first.now + links_weight l.links.now)

-- the operands that are left, behind the one whose value is known, have the chain's value
abbrev pub invariant-chain_value-loop-link : goal.invariant-chain_value-loop-link
invariant-chain_value-loop-link l =
    let a = slots_of l.slots in
    chain_value a l.connective l.current (drop l.link-index l.links)
    ≡ value a (chained_formula (Binary (of_connective l.connective)) (term_view l.first) (term_views l.links))

-- the same for arithmetic, and the operands that are left fit
abbrev pub invariant-arithmetic_value-loop-link : goal.invariant-arithmetic_value-loop-link
invariant-arithmetic_value-loop-link l =
    let a = slots_of l.slots in
    record {
      same : arithmetic_value a l.current (drop l.link-index l.links) ≡ value a (term_of_operands (term_view l.first) (link_views l.links));
      fits : ArithmeticFits (length l.slots) a l.current (drop l.link-index l.links);
    }
