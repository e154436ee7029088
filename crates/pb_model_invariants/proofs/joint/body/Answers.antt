use Rattle.std.proofs.Common.{◌∙◌, ap, true}
use Rattle.pb_text_tree.specs.declared.operator.Connective.TheVariants.{And}
use Rattle.pb_text_tree.specs.Form.{chained}
use Rattle.pb_model_tree.specs.Form.{FormulaForm, formula_form}
use Rattle.pb_model_invariants.specs.Links.{link_forms}
use Rattle.pb_model_invariants.proofs.CopyLemmas.{formula-chain}
use Rattle.pb_model_invariants.proofs.joint.body.Goals as goal

pub returns : goal.returns
returns c =
    let links = c.in_ok-links.links in
    formula-chain And c.in_ok-first.first links
    ∙ (ap (λ (f : FormulaForm). chained (FormulaForm.connected And) f (link_forms links.items)) (ap formula_form c.in_ok-first.ensures.ok)
    ∙ ap (chained (FormulaForm.connected And) (FormulaForm.constant c.args.place true)) c.in_ok-links.ensures)
