use Rattle.std.proofs.Common.{ap, ◌∙◌}
use Rattle.pb_text_tree.specs.Form.{chained}
use Rattle.pb_protocol_tree.specs.Form.{FormulaForm, formula_form}
use Rattle.pb_protocol_tree.specs.Links.{link_forms}
use Rattle.pb_protocol_tree.proofs.CopyLemmas.{formula-chain}
use Rattle.pb_model_text.proofs.node.joined.Goals as goal

pub returns : goal.returns
returns c =
    formula-chain c.args.connective c.in_ok-first.first c.args.links
    ∙ ap (λ f. chained (FormulaForm.connected c.args.connective) (formula_form f) (link_forms c.args.links.items))
    c.in_ok-first.ensures.ok
