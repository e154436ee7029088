use Rattle.std.proofs.Common.{◌≡◌, ◌∙◌, sym, ap, map}
use Rattle.std.specs.Prelude.{box_value}
use Rattle.std.proofs.lemmas.Result.{IfOk-weaker}
use Rattle.pb_text_tree.specs.Form.{chained}
use Rattle.pb_protocol_tree.specs.declared.formula.Formula.{Formula}
use Rattle.pb_protocol_tree.specs.Form.{formula_form}
use Rattle.pb_protocol_negation.specs.Negated.{negated, negated_connection}
use Rattle.pb_protocol_negation.specs.Links.{link_form}
use Rattle.pb_protocol_negation.proofs.Chains.{chain-negated}
use Rattle.pb_protocol_negation.proofs.formula.+formulas.Goals as goal

pub negated-returns-in_ok-links-in-Chain : goal.negated-returns-in_ok-links-in-Chain
negated-returns-in_ok-links-in-Chain t c =
    let n = c.in-Chain in
    let first = c.in_ok-first-in-Chain in
    let links = c.in_ok-links-in-Chain in
    IfOk-weaker c.negated_chain.result
    (λ (f : Formula). formula_form f ≡ chained (negated_connection n.connective) (formula_form (box_value first.first)) (map link_form links.links.items))
    (λ (f : Formula). formula_form f ≡ negated (formula_form c.args.formula))
    (λ f h. h ∙ chain-negated n.connective first.first links.links.items n.first n.links first.ensures links.ensures ∙ ap (λ (g : Formula). negated (formula_form g)) (sym n.is))
    c.negated_chain.ensures
