use Rattle.std.proofs.Common.{◌-◌, ◌<◌, sym, ap, ◌∙◌, arith, add-one, length, take}
use Rattle.pb_normal.specs.View.{term_of_operands, link_views, term_view}
use Rattle.pb_assembler_measures.specs.MeasureTerms.{capped_load, followed, term_load}
use Rattle.pb_assembler_measures.proofs.Views.{calculated_more, chain_is, arithmetic_is}
use Rattle.pb_typing_tree.proofs.Weight.{weight, terms_weight, links_weight, weight-chain, weight-arithmetic, term_lighter, link_lighter}
use Rattle.pb_assembler_measures.proofs.MeasureLoads.{arithmetic_capped}
use Rattle.pb_assembler_measures.proofs.measure_term.+measures.Goals as goal

pub measure_arithmetic-measure_term-operand-requires : goal.measure_arithmetic-measure_term-operand-requires
measure_arithmetic-measure_term-operand-requires t c =
    omega (arith, c.decreases, link_lighter c.args.links.now c.loop-link.link-index c.link-item.result c.loop-link-test.true c.link-item.is)

pub measure_arithmetic-loop-link-preserved : goal.measure_arithmetic-loop-link-preserved
measure_arithmetic-loop-link-preserved t c =
    let first = term_view c.args.first.now in
    let links = c.args.links.now in
    let k = c.loop-link.link-index in
    let l = c.link-item.result in
    c.followed-load.ensures ∙ ap (λ k. capped_load (followed k)) c.both.ensures
    ∙ arithmetic_capped l.operator (term_of_operands first (link_views (take k links))) (term_view l.operand)
    c.loop-link.load c.measure_term-operand.result c.loop-link.invariant c.measure_term-operand.ensures
    ∙ sym (ap (λ n. capped_load (term_load (term_of_operands first (link_views (take n links))))) (add-one k)
    ∙ ap (λ t. capped_load (term_load t)) (calculated_more first links k l c.loop-link-test.true c.link-item.is))

pub measure_chain-measure_term-load-requires : goal.measure_chain-measure_term-load-requires
measure_chain-measure_term-load-requires t c =
    let e = c.is_empty.ensures in
    let f = c.if-is_empty.false in
    let below : length c.args.links.now - 1 < length c.args.links.now = grind (arith, e, f) in
    omega (arith, c.decreases, term_lighter c.args.links.now (length c.args.links.now - 1) c.index-links-left.result below c.index-links-left.is)

pub measure_chain-measure_term-operand-requires : goal.measure_chain-measure_term-operand-requires
measure_chain-measure_term-operand-requires t c =
    let below : c.loop-left.left - 1 < length c.args.links.now = let a = c.loop-left.invariant.0 in omega (arith, a) in
    omega (arith, c.decreases, term_lighter c.args.links.now (c.loop-left.left - 1) (c.index-links-left-in-loop-left).result below (c.index-links-left-in-loop-left).is)

pub measure_term-measure_chain-requires : goal.measure_term-measure_chain-requires
measure_term-measure_chain-requires t c =
    omega (
      arith,
      c.decreases,
      ap weight c.in-Chain.is
          ∙ weight-chain c.in-Chain.connective c.in-Chain.first c.in-Chain.links,
      ap weight c.deref-in-Chain.ensures,
      ap
          terms_weight (c.deref-in-Chain-2).ensures.value,
    )

pub measure_term-measure_arithmetic-requires : goal.measure_term-measure_arithmetic-requires
measure_term-measure_arithmetic-requires t c =
    omega (
      arith,
      c.decreases,
      ap weight c.in-Arithmetic.is
          ∙ weight-arithmetic c.in-Arithmetic.first c.in-Arithmetic.links,
      ap weight c.deref-in-Arithmetic.ensures,
      ap
          links_weight (c.deref-in-Arithmetic-2).ensures.value,
    )

pub measure_term-returns-in-Chain : goal.measure_term-returns-in-Chain
measure_term-returns-in-Chain t c =
    c.measure_chain.ensures
    ∙ ap (λ y. capped_load (term_load y))
    (chain_is c.args.term.now c.deref-in-Chain.result.now c.in-Chain.connective c.in-Chain.first c.in-Chain.links
    (c.deref-in-Chain-2).result.now c.in-Chain.is c.deref-in-Chain.ensures (c.deref-in-Chain-2).ensures.value)

pub measure_term-returns-in-Arithmetic : goal.measure_term-returns-in-Arithmetic
measure_term-returns-in-Arithmetic t c =
    c.measure_arithmetic.ensures
    ∙ ap (λ y. capped_load (term_load y))
    (arithmetic_is c.args.term.now c.deref-in-Arithmetic.result.now c.in-Arithmetic.first c.in-Arithmetic.links
    (c.deref-in-Arithmetic-2).result.now c.in-Arithmetic.is c.deref-in-Arithmetic.ensures (c.deref-in-Arithmetic-2).ensures.value)
