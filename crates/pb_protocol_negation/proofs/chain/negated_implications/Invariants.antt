use Rattle.std.proofs.Common.{◌≡◌, map, reverse, vec_len}
use Rattle.pb_text_tree.specs.declared.operator.Connective.TheVariants as connective
use Rattle.pb_text_tree.specs.Form.{chained}
use Rattle.pb_protocol_tree.specs.Form.{formula_form}
use Rattle.pb_protocol_negation.specs.Negated.{negated_connection}
use Rattle.pb_protocol_negation.specs.Links.{link_form}
use Rattle.pb_protocol_negation.proofs.Chains.{begun}
use Rattle.pb_protocol_negation.proofs.chain.negated_implications.Given as goal

-- what is left of the links and what is done come to the negation of them all
abbrev pub invariant-loop-link : goal.invariant-loop-link
invariant-loop-link l =
    (l.first ≡ l.fn.first)
    × (begun (formula_form l.fn.first) (map link_form l.operands.items) l.implication (map link_form (reverse l.negations.items))
    ≡ chained (negated_connection connective.Implies) (formula_form l.fn.first) (map link_form l.fn.links.items))

abbrev pub decreases-loop-link : goal.decreases-loop-link
decreases-loop-link l = vec_len l.operands
