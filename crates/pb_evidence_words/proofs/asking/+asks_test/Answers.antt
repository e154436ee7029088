use Rattle.std.proofs.Common.{◌≡◌, List, ap, ◌∙◌}
use Rattle.pb_text_tree.specs.declared.formula.Formula.{Formula}
use Rattle.pb_text_tree.specs.declared.formula.Link.{Link}
use Rattle.pb_text_tree.specs.Form.{formula_form, link_forms}
use Rattle.pb_model_words.specs.View.{vocabulary_of}
use Rattle.pb_evidence_words.specs.Asking.{asks_test}
use Rattle.pb_evidence_words.proofs.AskingChains.{asks-chain, asks_rest}
use Rattle.pb_evidence_words.proofs.asking.+asks_test.Goals as goal

pub loop-link-init : goal.loop-link-init
loop-link-init t c =
    let m = vocabulary_of c.args.vocabulary.now in
    let first = formula_form c.in-Chain.first.value in
    let links = c.deref-link-items.result.now in
    let asks : c.asks_test-asks.result ≡ asks_test m first =
    c.asks_test-asks.ensures ∙ ap (λ (g : Formula). asks_test m (formula_form g)) c.deref-in-Chain.ensures in
    ap (λ b. asks_rest m b (formula_form c.deref-operand.result.now) (link_forms links)) asks
    ∙ (ap (λ (g : Formula). asks_rest m (asks_test m first) (formula_form g) (link_forms links)) c.deref-operand.ensures
    ∙ (ap (λ (ls : List Link). asks_rest m (asks_test m first) first (link_forms ls)) c.deref-link-items.ensures.value
    ∙ asks-chain m c.args.formula.now c.in-Chain.connective c.in-Chain.first c.in-Chain.links c.in-Chain.is))
