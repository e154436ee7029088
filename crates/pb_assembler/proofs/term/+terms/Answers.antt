use Rattle.std.proofs.Common.{◌≡◌, ℕ, ◌-◌, ◌<◌, suc, sym, ap, ◌∙◌, subst, arith, add-one, length, drop, take, OnOk}
use Rattle.pb_text_tree.specs.declared.operator.Connective.{Connective}
use Rattle.pb_normal.specs.Normal as normal
use Rattle.pb_normal.specs.View.{term_of_operands, link_views, term_view}
use Rattle.pb_assembler_scheme.specs.Pieces.{Piece, Then}
use Rattle.pb_assembler_scheme.specs.Scheme.{data_piece}
use Rattle.pb_assembler.specs.Emitted.{Emits, connected_behind, nowhere}
use Rattle.pb_normal.specs.Small.{is_small}
use Rattle.pb_assembler.proofs.Chains.{one_more, chain_step, chain_all, chain_read, small_link, small_head, small_operand, arithmetic_read, IsChainOf, IsArithmeticOf}
use Rattle.pb_assembler_measures.proofs.Views.{calculated_more, chain_from}
use Rattle.pb_typing_tree.proofs.Weight.{term_lighter, link_lighter}
use Rattle.pb_assembler.proofs.Emitting.{emits_then, choice_emitted, on_ok}
use Rattle.pb_assembler.proofs.term.+terms.Goals as goal
use Rattle.pb_assembler.proofs.term.+terms.Goals.{emit_term-After-deref-in-Chain-2, emit_term-After-deref-in-Arithmetic-2}

pub emit_one-returns : goal.emit_one-returns
emit_one-returns t c = on_ok c.emit_plain.result _ _ c.emit_plain.ensures (emits_then c.in_ok-emit_term.ensures)

pub emit_two-returns : goal.emit_two-returns
emit_two-returns t c =
    on_ok c.emit_plain.result _ _ c.emit_plain.ensures (λ h. emits_then c.in_ok-emit_term.ensures (emits_then (c.in_ok-emit_term-2).ensures h))

pub emit_beside-returns : goal.emit_beside-returns
emit_beside-returns t c =
    on_ok (c.emit_plain-2).result _ _ (c.emit_plain-2).ensures (λ h. emits_then c.in_ok-emit_term.ensures (emits_then c.in_ok-emit_plain.ensures h))

pub emit_choice-returns : goal.emit_choice-returns
emit_choice-returns t c =
    emits_then c.in_ok-emit_term.ensures
    (choice_emitted c.in_ok-other.ensures.label c.in_ok-other.ensures.ok c.in_ok-last.ensures.label c.in_ok-last.ensures.ok
    c.in_ok-emit_jump.ensures.ok (c.in_ok-emit_term-2).ensures (c.in_ok-emit_jump-2).ensures.ok c.place.ensures (c.in_ok-emit_term-3).ensures (c.place-2).ensures)

-- ---- arithmetic

pub emit_arithmetic-emit_term-requires : goal.emit_arithmetic-emit_term-requires
emit_arithmetic-emit_term-requires t c = (omega (arith, c.decreases), small_head (term_view c.args.first.now) c.args.links.now c.requires)

pub emit_arithmetic-emit_one-requires : goal.emit_arithmetic-emit_one-requires
emit_arithmetic-emit_one-requires t c = (
  omega (arith, c.decreases, link_lighter c.args.links.now c.loop-link.link-index c.link-item.result c.loop-link-test.true c.link-item.is),
  small_operand (term_view c.args.first.now) c.args.links.now c.loop-link.link-index c.link-item.result c.loop-link-test.true c.link-item.is c.requires,
)

pub emit_arithmetic-loop-link-preserved : goal.emit_arithmetic-loop-link-preserved
emit_arithmetic-loop-link-preserved t c =
    let first = term_view c.args.first.now in
    let links = c.args.links.now in
    let k = c.loop-link.link-index in
    let l = c.link-item.result in
    let x = data_piece (term_of_operands first (link_views (take k links))) in
    let y = data_piece (term_view l.operand) in
    let same =
    ap (λ n. data_piece (term_of_operands first (link_views (take n links)))) (add-one k)
    ∙ ap data_piece (calculated_more first links k l c.loop-link-test.true c.link-item.is) ∙ sym (c.arithmetic_op.ensures x y) in
    subst (λ (q : Piece). Emits q nowhere c.args.builder.now c.emit_one.new.builder) (sym same)
    (emits_then c.loop-link.invariant c.in_ok-emit_one.ensures)

-- ---- chains

pub emit_chain-emit_operand-requires : goal.emit_chain-emit_operand-requires
emit_chain-emit_operand-requires t c =
    let below : c.loop-left.left - 1 < length c.args.links.now = let a = c.loop-left.invariant.0 in omega (arith, a) in (
      omega (arith, c.decreases, term_lighter c.args.links.now (c.loop-left.left - 1) (c.index-links-left-in-loop-left).result below (c.index-links-left-in-loop-left).is),
      small_link c.args.connective (term_view c.args.first.now) c.args.links.now (c.loop-left.left - 1) (c.index-links-left-in-loop-left).result below (c.index-links-left-in-loop-left).is c.requires,
    )

pub emit_chain-loop-left-preserved : goal.emit_chain-loop-left-preserved
emit_chain-loop-left-preserved t c =
    let o = c.args.connective in
    let xs = c.args.links.now in
    let left = c.loop-left.left in
    let x = (c.index-links-left-in-loop-left).result in
    let a = c.loop-left.invariant.0 in
    let b = c.loop-left-test.true in
    let next : suc (left - 1) ≡ left = omega (arith, b) in
    let same =
    ap data_piece (chain_step o xs (left - 1) x (omega (arith, a, b)) (c.index-links-left-in-loop-left).is)
    ∙ one_more o (term_view x) (chain_from o (drop (suc (left - 1)) xs))
    ∙ ap (λ n. Then (data_piece (chain_from o (drop n xs))) (connected_behind o (data_piece (term_view x)))) next in (
      omega (arith, a),
      subst (λ (q : Piece). Emits q nowhere c.args.builder.now c.emit_operand.new.builder) (sym same)
          (emits_then c.loop-left.invariant.1 c.in_ok-emit_operand.ensures),
    )

pub emit_operand-returns-in_ok-emit_one-in-Implies : goal.emit_operand-returns-in_ok-emit_one-in-Implies
emit_operand-returns-in_ok-emit_one-in-Implies t c =
    let x = data_piece (term_view c.args.operand.now) in
    on_ok c.emit_plain.result _ _ c.emit_plain.ensures (λ h.
    subst (λ (o : Connective). Emits (connected_behind o x) nowhere c.args.builder.now c.emit_plain.new.builder) (sym c.in-Implies.is)
    (emits_then (c.in_ok-emit_one-in-Implies).ensures h))

-- ---- nodes

chain : (t : ℕ) (c : emit_term-After-deref-in-Chain-2 t) → IsChainOf c.args.term.now c.in-Chain.connective c.deref-in-Chain.result.now (c.deref-in-Chain-2).result.now
chain t c = chain_read c.in-Chain.connective c.in-Chain.first c.in-Chain.links c.in-Chain.is c.deref-in-Chain.ensures (c.deref-in-Chain-2).ensures.value

arithmetic : (t : ℕ) (c : emit_term-After-deref-in-Arithmetic-2 t) → IsArithmeticOf c.args.term.now c.deref-in-Arithmetic.result.now (c.deref-in-Arithmetic-2).result.now
arithmetic t c = arithmetic_read c.in-Arithmetic.first c.in-Arithmetic.links c.in-Arithmetic.is c.deref-in-Arithmetic.ensures (c.deref-in-Arithmetic-2).ensures.value

pub emit_term-emit_chain-requires : goal.emit_term-emit_chain-requires
emit_term-emit_chain-requires t c =
    let read = chain t (goal.at.emit_term-emit_chain-requires t c).After-deref-in-Chain-2 in
    (omega (arith, c.decreases, read.weighs), ap is_small read.view ∙ c.requires)

pub emit_term-emit_arithmetic-requires : goal.emit_term-emit_arithmetic-requires
emit_term-emit_arithmetic-requires t c =
    let read = arithmetic t (goal.at.emit_term-emit_arithmetic-requires t c).After-deref-in-Arithmetic-2 in
    (omega (arith, c.decreases, read.weighs), ap is_small read.view ∙ c.requires)

pub emit_term-returns-in-Chain : goal.emit_term-returns-in-Chain
emit_term-returns-in-Chain t c =
    subst (λ (y : normal.Term). OnOk c.emit_chain.result (Emits (data_piece y) nowhere c.args.builder.now c.emit_chain.new.builder))
    (chain t (goal.at.emit_term-returns-in-Chain t c).After-deref-in-Chain-2).view c.emit_chain.ensures

pub emit_term-returns-in-Arithmetic : goal.emit_term-returns-in-Arithmetic
emit_term-returns-in-Arithmetic t c =
    subst (λ (y : normal.Term). OnOk c.emit_arithmetic.result (Emits (data_piece y) nowhere c.args.builder.now c.emit_arithmetic.new.builder))
    (arithmetic t (goal.at.emit_term-returns-in-Arithmetic t c).After-deref-in-Arithmetic-2).view c.emit_arithmetic.ensures

pub emit_chain-returns : goal.emit_chain-returns
emit_chain-returns t c =
    let o = c.args.connective in
    let xs = c.args.links.now in
    let left = c.loop-left.left in
    let first = term_view c.args.first.now in
    let a = c.loop-left.invariant.0 in
    let b = c.loop-left-test.false in
    let same = ap data_piece (chain_all o first xs left (omega (arith, b)) (omega (arith, a))) ∙ one_more o first (chain_from o (drop left xs)) in
    on_ok (c.emit_operand-2).result _ _ (c.emit_operand-2).ensures (λ h.
    subst (λ (q : Piece). Emits q nowhere c.args.builder.now (c.emit_operand-2).new.builder) (sym same)
    (emits_then c.loop-left.invariant.1 h))

pub emit_chain-emit_term-requires-2 : goal.emit_chain-emit_term-requires-2
emit_chain-emit_term-requires-2 t c =
    let e = c.is_empty.ensures in
    let f = c.if-is_empty.false in
    let below : length c.args.links.now - 1 < length c.args.links.now = grind (arith, e, f) in (
      omega (arith, c.decreases, term_lighter c.args.links.now (length c.args.links.now - 1) c.index-links-left.result below c.index-links-left.is),
      small_link c.args.connective (term_view c.args.first.now) c.args.links.now (length c.args.links.now - 1) c.index-links-left.result below c.index-links-left.is c.requires,
    )
