-- What asks for the step, or else goes on.
use Rattle.std.proofs.Common.{◌≡◌, ◌∙◌, ◌++◌, List, [], ◌∷◌, ap, string_bytes}
use Rattle.pb_fixpoint.specs.declared.Sign.TheVariants.{Mu}
use Rattle.pb_text_tree.specs.declared.operator.Connective.TheVariants.{Or}
use Rattle.pb_text_tree.specs.Form.{named}
use Rattle.pb_text_meaning.specs.Syntax.{Name}
use Rattle.pb_model_tree.specs.declared.formula.Link.{Link}
use Rattle.pb_model_tree.specs.Form.{FormulaForm, formula_form}
use Rattle.pb_model_typing.specs.Reached.{onward_form, taken_form}
use Rattle.pb_model_typing.proofs.Joined.{chain-of-one}
use Rattle.pb_model_typing.proofs.reached.reached.Goals as goal

pub returns : goal.returns
returns c =
    let place = c.args.place in
    let name = (named c.args.step.now).text in
    let link : Link = record { place = place; operand = c.in_ok-operand.operand } in
    let one : c.push.new.self.items ≡ link ∷ [] = c.in_ok-push.ensures.items ∙ ap (λ (ls : List Link). ls ++ link ∷ []) c.new-links.ensures.items in
    let taken : formula_form c.in_ok-first.first.value ≡ taken_form place name = ap formula_form c.in_ok-first.ensures.ok ∙ c.in_ok-taken.ensures in
    let chain = chain-of-one c.in_ok-body.body.value Or c.in_ok-first.first c.push.new.self link c.in_ok-body.ensures.ok one in
    let body : formula_form c.in_ok-body.body.value ≡ FormulaForm.connected Or place (taken_form place name) (onward_form place) =
    chain ∙ (ap (λ (f : FormulaForm). FormulaForm.connected Or place f (formula_form c.in_ok-operand.operand)) taken
    ∙ ap (λ (f : FormulaForm). FormulaForm.connected Or place (taken_form place name) f) c.in_ok-operand.ensures) in
    ap (λ (f : FormulaForm). FormulaForm.fixpoint Mu place (record { place = place; text = string_bytes c.in_ok-text.text }) f) body
    ∙ ap (λ (x : Name). FormulaForm.fixpoint Mu place (record { place = place; text = x }) (FormulaForm.connected Or place (taken_form place name) (onward_form place))) c.in_ok-text.ensures.ok
