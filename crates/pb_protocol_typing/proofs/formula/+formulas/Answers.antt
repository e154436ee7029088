use Rattle.std.proofs.Common.{◌≡◌, ℕ, ◌+◌, ◌-◌, ◌∙◌, drop, length, refl, sym, ap, arith}
use Rattle.std.specs.Prelude.{box_value}
use Rattle.pb_typing.specs.View.{is_positive}
use Rattle.pb_protocol_tree.specs.declared.formula.Formula.{Formula}
use Rattle.pb_protocol_tree.specs.Form.{formula_form}
use Rattle.pb_protocol_typing.specs.Fault.{either_fault}
use Rattle.pb_protocol_typing.specs.FormulaLinks.{operands_fault}
use Rattle.pb_protocol_typing.specs.Formulas.{formula_fault}
use Rattle.pb_protocol_typing.specs.View.{scope_of, shapes_in}
use Rattle.pb_protocol_typing.proofs.FormulaRows.{chain-fault, operand-next}
use Rattle.pb_protocol_typing.proofs.Rows.{found, left_out, joined-two}
use Rattle.pb_protocol_typing.proofs.formula.+formulas.Goals as goal
use Rattle.pb_protocol_typing.proofs.formula.+formulas.Goals.{operands_fault-After-operand_polarity-of_link}

pub formula_fault-returns-in-Chain : goal.formula_fault-returns-in-Chain
formula_fault-returns-in-Chain t c =
    let steps = shapes_in c.args.steps.now in
    let s = scope_of c.args.scope.now in
    let even = is_positive c.args.polarity in
    let n = c.in-Chain in
    let x = box_value n.first in
    let of_first = is_positive c.operand_polarity-of_first.result in
    let first : c.formula_fault-in-Chain.result ≡ formula_fault steps s of_first (formula_form x) =
    c.formula_fault-in-Chain.ensures ∙ ap (λ (g : Formula). formula_fault steps s of_first (formula_form g)) c.deref-in-Chain-2.ensures in
    let others : c.operands_fault-others.result ≡ operands_fault steps s n.connective even n.links.items =
    c.operands_fault-others.ensures ∙ ap (operands_fault steps s n.connective even) c.deref-in-Chain.ensures.value in
    joined-two _ _ _ _ _ c.or.ensures first others
    ∙ sym (chain-fault steps s even c.args.formula.now x n.connective n.first n.links n.links.items c.len.result of_first n.is refl refl
    (omega (arith, c.len.ensures, n.links.ok.0)) c.operand_polarity-of_first.ensures)

-- the fault of a link's operand, or of those behind it
next_operand : (t : ℕ) (c : operands_fault-After-operand_polarity-of_link t) →
    let steps = shapes_in c.args.steps.now in
    let s = scope_of c.args.scope.now in
    let even = is_positive c.args.polarity in
    operands_fault steps s c.args.connective even c.args.links.now
    ≡ either_fault (formula_fault steps s (is_positive c.operand_polarity-of_link.result) (formula_form c.index-links-index.result.operand))
    (operands_fault steps s c.args.connective even (drop (c.loop-index.index + 1) c.args.links.now))
next_operand t c =
    let links = c.args.links.now in
    let k = c.loop-index.index in
    c.loop-index.invariant ∙ operand-next (shapes_in c.args.steps.now) (scope_of c.args.scope.now) c.args.connective (is_positive c.args.polarity) links k (length links - k - 1)
    c.index-links-index.result (is_positive c.operand_polarity-of_link.result) c.loop-index-test.true c.index-links-index.is refl c.operand_polarity-of_link.ensures

pub operands_fault-returns-in-Some : goal.operands_fault-returns-in-Some
operands_fault-returns-in-Some t c =
    found _ _ _ c.in-Some.fault (next_operand t (goal.at.operands_fault-returns-in-Some t c).After-operand_polarity-of_link) c.in-Some.ensures

pub operands_fault-loop-index-preserved : goal.operands_fault-loop-index-preserved
operands_fault-loop-index-preserved t c =
    left_out _ _ _ (next_operand t (goal.at.operands_fault-loop-index-preserved t c).After-operand_polarity-of_link) c.in_default.ensures
