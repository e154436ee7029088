use Rattle.std.proofs.Common.{◌∙◌, ◌++◌, ◌∷◌, [], List, sym, ap, flat_map}
use Rattle.std.proofs.lemmas.List.{append_assoc, map-append}
use Rattle.std.proofs.lemmas.Result.{on_ok_weaker}
use Rattle.pb_model_tree.specs.Form.{FormulaForm, formula_form}
use Rattle.pb_model_invariants.specs.Invariants.{conjuncts}
use Rattle.pb_model_invariants.specs.Links.{conjuncts_of_link, form_by, forms_in}
use Rattle.pb_model_invariants.proofs.Chains.{chain-apart, chain-joined}
use Rattle.pb_model_invariants.proofs.conjuncts.+formulas.Goals as goal

pub push_conjuncts-returns-then-joins : goal.push_conjuncts-returns-then-joins
push_conjuncts-returns-then-joins t c =
    let n = c.in-Chain in
    let links = c.deref-then-joins-2.result.now in
    let more = flat_map conjuncts_of_link links in
    let before = forms_in c.args.operands.now.items in
    let first = c.deref-then-joins.result.now in
    let parts = chain-joined c.args.formula.now first n.connective n.first n.links c.deref.result.now links n.is c.deref-then-joins.ensures c.deref.ensures.value
    c.deref-then-joins-2.ensures.value (sym c.if-joins.true ∙ c.joins.ensures) in
    on_ok_weaker c.push_operands.result
    (λ e. e ∙ (ap (λ (xs : List FormulaForm). xs ++ more) c.in_ok-push_conjuncts-in-Chain.ensures
    ∙ (append_assoc before (conjuncts (formula_form first)) more ∙ ap (λ (xs : List FormulaForm). before ++ xs) (sym parts)))) c.push_operands.ensures

pub push_conjuncts-returns-in_ok-push-in-Chain : goal.push_conjuncts-returns-in_ok-push-in-Chain
push_conjuncts-returns-in_ok-push-in-Chain t c =
    let n = c.in-Chain in
    let before = c.args.operands.now.items in
    ap forms_in c.in_ok-push-in-Chain.ensures.items
    ∙ (map-append form_by before (c.args.formula ∷ [])
    ∙ ap (λ (xs : List FormulaForm). forms_in before ++ xs)
    (sym (chain-apart c.args.formula.now n.connective n.first n.links c.deref.result.now n.is c.deref.ensures.value (sym c.if-joins.false ∙ c.joins.ensures))))
