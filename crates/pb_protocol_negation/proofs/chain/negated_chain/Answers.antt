use Rattle.std.proofs.Common.{◌∙◌, sym, ap, map}
use Rattle.std.specs.Prelude.{box_value}
use Rattle.pb_text_tree.specs.declared.operator.Connective.{Connective}
use Rattle.pb_text_tree.specs.Form.{chained}
use Rattle.pb_protocol_tree.specs.Form.{formula_form}
use Rattle.pb_protocol_negation.specs.Negated.{negated_connection}
use Rattle.pb_protocol_negation.specs.Links.{link_form}
use Rattle.pb_protocol_negation.proofs.Chains.{chain-and, chain-or}
use Rattle.pb_protocol_negation.proofs.chain.negated_chain.Goals as goal

pub returns-in-And : goal.returns-in-And
returns-in-And c =
    chain-and c.args.first c.args.links
    ∙ ap (λ (k : Connective). chained (negated_connection k) (formula_form (box_value c.args.first)) (map link_form c.args.links.items)) (sym c.in-And.is)

pub returns-in-Or : goal.returns-in-Or
returns-in-Or c =
    chain-or c.args.first c.args.links
    ∙ ap (λ (k : Connective). chained (negated_connection k) (formula_form (box_value c.args.first)) (map link_form c.args.links.items)) (sym c.in-Or.is)
