use Rattle.std.proofs.Common.{◌∙◌, sym, map, refl}
use Rattle.std.specs.List.{list_all}
use Rattle.pb_protocol_tree.specs.Form.{formula_form}
use Rattle.pb_protocol_unfolder.specs.Plain.{is_plain_formula}
use Rattle.pb_protocol_unfolder.specs.View.{formula_operand}
use Rattle.pb_protocol_unfolder.proofs.PlainChains.{at-false, at-true, formula-chained}
use Rattle.pb_protocol_unfolder.proofs.plain_test.+plain_formulas.Goals as goal

pub is_plain_formula-returns-then-not-is_plain_formula : goal.is_plain_formula-returns-then-not-is_plain_formula
is_plain_formula-returns-then-not-is_plain_formula t c =
    let whole = formula-chained c.in-Chain.connective c.deref-in-Chain.result.now c.in-Chain.first c.in-Chain.links c.in-Chain.links.items c.args.formula.now c.in-Chain.is c.deref-in-Chain.ensures
    refl in
    at-false (is_plain_formula (formula_form c.deref-in-Chain.result.now)) (list_all is_plain_formula (map formula_operand c.in-Chain.links.items))
    (is_plain_formula (formula_form c.args.formula.now)) whole
    (sym c.is_plain_formula-in-Chain.ensures ∙ c.if-not-is_plain_formula.true)

pub is_plain_formula-returns-else-not-is_plain_formula : goal.is_plain_formula-returns-else-not-is_plain_formula
is_plain_formula-returns-else-not-is_plain_formula t c =
    let x = c.deref-in-Chain.result.now in
    let links = c.deref-in-Chain-2.result.now in
    let whole = formula-chained c.in-Chain.connective x c.in-Chain.first c.in-Chain.links links c.args.formula.now c.in-Chain.is c.deref-in-Chain.ensures c.deref-in-Chain-2.ensures.value in
    c.are_plain_formulas.ensures ∙ at-true (is_plain_formula (formula_form x)) (list_all is_plain_formula (map formula_operand links)) (is_plain_formula (formula_form c.args.formula.now)) whole
    (sym c.is_plain_formula-in-Chain.ensures ∙ c.if-not-is_plain_formula.false)
