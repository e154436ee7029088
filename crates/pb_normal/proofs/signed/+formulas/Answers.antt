use Rattle.std.proofs.Common.{◌≡◌, Bool, ◌∙◌, ap, subst, arith, IfOk}
use Rattle.std.specs.Prelude.{box_value}
use Rattle.pb_typing_tree.specs.Tree as tree
use Rattle.pb_typing_tree.specs.View as typed
use Rattle.pb_typing.specs.View.{is_positive}
use Rattle.pb_normal.specs.declared.formula.Formula as code
use Rattle.pb_normal.specs.SignedForm.{signed_form}
use Rattle.pb_normal.specs.View.{nested, formula_view, formula_views}
use Rattle.pb_normal.proofs.Operands.{chain-signed, quantified-signed, signed_next, signed_ended}
use Rattle.pb_normal.proofs.Views.{formula-join}
use Rattle.pb_typing_tree.proofs.FormulaWeight.{weight, links_weight, weight-chain, operand_lighter, chain_is}
use Rattle.pb_normal.proofs.signed.+formulas.Goals as goal

-- ---- chains

pub signed_form-signed_chain-requires : goal.signed_form-signed_chain-requires
signed_form-signed_chain-requires t c =
    omega (
      arith,
      c.decreases,
      ap weight c.in-Chain.is
          ∙ weight-chain c.in-Chain.connective c.in-Chain.first c.in-Chain.links,
      ap weight c.deref-in-Chain.ensures,
      ap
          links_weight (c.deref-in-Chain-2).ensures.value,
    )

pub signed_form-returns-in-Chain : goal.signed_form-returns-in-Chain
signed_form-returns-in-Chain t c =
    let node =
    chain_is c.args.formula.now c.deref-in-Chain.result.now c.in-Chain.connective c.in-Chain.first c.in-Chain.links
    (c.deref-in-Chain-2).result.now c.in-Chain.is c.deref-in-Chain.ensures (c.deref-in-Chain-2).ensures.value in
    subst (λ (g : tree.Formula). IfOk c.signed_chain.result (λ (f : code.Formula). formula_view f ≡ signed_form (is_positive c.args.polarity) g)) node c.signed_chain.ensures

pub signed_chain-returns : goal.signed_chain-returns
signed_chain-returns t c =
    let first = typed.formula_view c.args.first.now in
    formula-join c.signed_junction.result c.in_ok-first.first c.in_ok-rest.rest
    ∙ chain-signed c.args.connective (is_positive c.args.polarity) c.signed_junction.result first c.args.links.now
    (formula_view (box_value c.in_ok-first.first)) (formula_views c.in_ok-rest.rest.items) c.signed_junction.ensures
    (ap formula_view c.in_ok-first.ensures.ok ∙ (c.in_ok-head.ensures ∙ ap (λ (q : Bool). signed_form q first) c.operand_polarity-of_first.ensures))
    c.in_ok-rest.ensures

pub signed_links-signed_form-requires : goal.signed_links-signed_form-requires
signed_links-signed_form-requires t c =
    omega (arith, c.decreases, operand_lighter c.args.links.now c.loop-index.index c.index-links-index.result c.loop-index-test.true c.index-links-index.is)

pub signed_links-loop-index-preserved : goal.signed_links-loop-index-preserved
signed_links-loop-index-preserved t c =
    signed_next c.args.connective (is_positive c.args.polarity) (is_positive c.operand_polarity-of_link.result)
    c.args.links.now c.loop-index.index c.index-links-index.result c.in_ok-operand.operand c.loop-index.rest.items c.push.new.self.items
    c.loop-index-test.true c.index-links-index.is c.operand_polarity-of_link.ensures c.in_ok-push.ensures.items c.in_ok-operand.ensures c.loop-index.invariant

pub signed_links-returns : goal.signed_links-returns
signed_links-returns t c =
    signed_ended c.args.connective (is_positive c.args.polarity) c.args.links.now c.loop-index.index c.loop-index.rest.items c.loop-index-test.false c.loop-index.invariant

-- ---- quantifiers

pub signed_form-returns-in_ok-new-in-Quantified : goal.signed_form-returns-in_ok-new-in-Quantified
signed_form-returns-in_ok-new-in-Quantified t c =
    let m = c.signed_quantifier.result in
    let cs = (c.deref-in-Quantified-2).result.now in
    ap (λ (f : code.Formula). nested m c.in-Quantified.slot cs (formula_view f)) (c.in_ok-new-in-Quantified).ensures.ok
    ∙ quantified-signed (is_positive c.args.polarity) m c.args.formula.now c.deref-in-Quantified.result.now
    c.in-Quantified.quantifier c.in-Quantified.slot c.in-Quantified.carriers c.in-Quantified.body cs
    (formula_view (c.in_ok-body-in-Quantified).body)
    c.in-Quantified.is c.deref-in-Quantified.ensures (c.deref-in-Quantified-2).ensures.value c.signed_quantifier.ensures (c.in_ok-body-in-Quantified).ensures
