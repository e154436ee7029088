use Rattle.std.proofs.Common.{◌∙◌, ◌&&◌, sym, ap}
use Rattle.pb_text_tree.specs.Form.{formula_form}
use Rattle.pb_text_tree.specs.declared.formula.Formula.{Formula}
use Rattle.pb_evidence_words.specs.Asking.{is_guard}
use Rattle.pb_evidence_words.proofs.AskingChains.{chain-guard, empty_items}
use Rattle.pb_evidence_words.proofs.asking.+is_guard.Goals as goal

pub returns-then-is_empty : goal.returns-then-is_empty
returns-then-is_empty t c =
    let here = c.args.here in
    c.is_guard.ensures
    ∙ (ap (λ (g : Formula). is_guard here (formula_form g)) c.deref.ensures
    ∙ sym (chain-guard here c.args.operand.now c.in-Chain.connective c.in-Chain.first c.in-Chain.links c.in-Chain.is
    ∙ ap (λ b. b && is_guard here (formula_form c.in-Chain.first.value)) (empty_items c.in-Chain.links c.if-is_empty.ensures)))

pub returns-else-is_empty : goal.returns-else-is_empty
returns-else-is_empty t c =
    let here = c.args.here in
    c.is_empty.ensures
    ∙ (sym c.if-is_empty.ensures
    ∙ sym (chain-guard here c.args.operand.now c.in-Chain.connective c.in-Chain.first c.in-Chain.links c.in-Chain.is
    ∙ ap (λ b. b && is_guard here (formula_form c.in-Chain.first.value)) (empty_items c.in-Chain.links c.if-is_empty.ensures)))
