use Rattle.std.proofs.Common.{◌≡◌, ◌∙◌, ◌+◌, ◌<◌, ℕ, List, true, sym, ap, subst, arith, add-one, length, OnOk}
use Rattle.pb_bytecode_program.specs.declared.instruction.Leaf.{Leaf}
use Rattle.pb_bytecode_program.specs.declared.instruction.Op.TheVariants as op
use Rattle.pb_typing.specs.View.{is_positive}
use Rattle.pb_normal.specs.Normal as normal
use Rattle.pb_normal.specs.Normal.{Join}
use Rattle.pb_normal.specs.declared.formula.Formula.{Formula}
use Rattle.pb_fixpoint_trees.specs.declared.junction.Junction.{Junction}
use Rattle.pb_normal.specs.Normalisation.{dual}
use Rattle.pb_typing_tree.specs.View.{chained_formula}
use Rattle.pb_normal.specs.View.{formula_view, formula_views, nested, term_view}
use Rattle.pb_assembler_scheme.specs.Pieces.{Piece, Plain, Unless, Choose}
use Rattle.pb_assembler_scheme.specs.Scheme.{deciding_leaf, formula_piece, junction_of, neutral}
use Rattle.pb_assembler.specs.Emitted.{Emits, nowhere}
use Rattle.pb_assembler.specs.Operands.{other_of}
use Rattle.pb_assembler_measures.specs.Tests.{tested_term}
use Rattle.pb_normal.specs.Small.{is_small_formula}
use Rattle.pb_assembler.proofs.Awaited.{awaits_choose, awaits_no_more, awaits_unless}
use Rattle.pb_assembler.proofs.Emitting.{bracket_emitted, on_ok}
use Rattle.pb_assembler.proofs.Joins.{Begins, Closes, IsJoinOf, all_left, begins_more, closes_more, each_other, each_repeated, first_left, guarded_left, join_read, last_left}
use Rattle.pb_assembler.proofs.Joins.{next_left, none_there, operands_piece, other_kind, repeated, same_kind, second_left, small_body, small_slot, some_there, tested_other, tested_own, untested}
use Rattle.pb_assembler_measures.proofs.Tests.{signed}
use Rattle.pb_assembler.proofs.formula.+formulas.Goals as goal
use Rattle.pb_assembler.proofs.formula.+formulas.Goals.{emit_formula-After-deref-then-eq, emit_formula-After-deref-else-eq-2, emit_loops-In-loop-begun}
use Rattle.pb_assembler.proofs.formula.+formulas.Goals.{emit_inside-then-early, emit_inside-else-early, emit_outside-then-early, emit_outside-else-early}

-- ---- nodes

pub emit_formula-emit_test-requires : goal.emit_formula-emit_test-requires
emit_formula-emit_test-requires t c =
    sym (ap is_small_formula (ap formula_view c.in-Test.is ∙ signed (is_positive c.in-Test.polarity) (term_view c.in-Test.term.now))) ∙ c.requires

pub emit_formula-returns-in-Test : goal.emit_formula-returns-in-Test
emit_formula-returns-in-Test t c =
    subst (λ (y : normal.Formula). OnOk c.emit_test.result (Emits (formula_piece c.args.layout.now c.args.around y) nowhere c.args.builder.now c.emit_test.new.builder))
    (sym (ap formula_view c.in-Test.is ∙ signed (is_positive c.in-Test.polarity) (term_view c.in-Test.term.now))) c.emit_test.ensures

-- a join of the bracket's kind
own_join : (t : ℕ) (c : emit_formula-After-deref-then-eq t) → IsJoinOf c.args.formula.now c.args.around c.deref.result.now (c.deref-then-eq).result.now
own_join t c =
    join_read c.in-Join.junction c.in-Join.first c.in-Join.rest c.in-Join.is c.deref.ensures (c.deref-then-eq).ensures.value
    (same_kind c.in-Join.junction c.args.around _ c.eq.ensures c.if-eq.true)

-- a join of the other kind
other_join : (t : ℕ) (c : emit_formula-After-deref-else-eq-2 t) → IsJoinOf c.args.formula.now (dual c.args.around) (c.deref-else-eq).result.now (c.deref-else-eq-2).result.now
other_join t c =
    join_read c.in-Join.junction c.in-Join.first c.in-Join.rest c.in-Join.is (c.deref-else-eq).ensures (c.deref-else-eq-2).ensures.value
    (other_kind c.in-Join.junction c.args.around _ c.eq.ensures c.if-eq.false)

pub emit_formula-emit_inside-requires : goal.emit_formula-emit_inside-requires
emit_formula-emit_inside-requires t c =
    let join = own_join t (goal.at.emit_formula-emit_inside-requires t c).After-deref-then-eq in
    (omega (arith, c.decreases, join.weighs), ap is_small_formula join.view ∙ c.requires)

pub emit_formula-emit_outside-requires : goal.emit_formula-emit_outside-requires
emit_formula-emit_outside-requires t c =
    let join = other_join t (goal.at.emit_formula-emit_outside-requires t c).After-deref-else-eq-2 in
    (omega (arith, c.decreases, join.weighs), ap is_small_formula join.view ∙ c.requires)

pub emit_formula-returns-then-eq : goal.emit_formula-returns-then-eq
emit_formula-returns-then-eq t c =
    subst (λ (y : normal.Formula). OnOk c.emit_inside.result (Emits (formula_piece c.args.layout.now c.args.around y) nowhere c.args.builder.now c.emit_inside.new.builder))
    (own_join t (goal.at.emit_formula-returns-then-eq t c).After-deref-then-eq).view c.emit_inside.ensures

pub emit_formula-returns-else-eq : goal.emit_formula-returns-else-eq
emit_formula-returns-else-eq t c =
    subst (λ (y : normal.Formula). OnOk c.emit_outside.result (Emits (formula_piece c.args.layout.now c.args.around y) nowhere c.args.builder.now c.emit_outside.new.builder))
    (other_join t (goal.at.emit_formula-returns-else-eq t c).After-deref-else-eq-2).view c.emit_outside.ensures

-- ---- quantifiers

pub emit_each-returns-then-eq : goal.emit_each-returns-then-eq
emit_each-returns-then-eq t c =
    let l = c.args.loops in
    let kind = c.junction_of-kind in
    subst (λ (k : Junction). OnOk c.emit_loops.result
    (Emits (formula_piece c.args.layout.now k (nested l.quantifier l.first l.carriers.now (formula_view c.args.loops.body.now))) nowhere c.args.builder.now c.emit_loops.new.builder))
    (sym kind.ensures ∙ same_kind kind.result c.args.around _ c.eq.ensures c.if-eq.true) c.emit_loops.ensures

pub emit_each-returns : goal.emit_each-returns
emit_each-returns t c =
    let q = c.args.loops.quantifier in
    let cs = c.args.loops.carriers.now in
    let made = c.junction_of-kind.ensures in
    let other = sym made ∙ other_kind c.junction_of-kind.result c.args.around _ c.eq.ensures c.if-eq.false in
    on_ok (c.emit_plain-2).result _ _ (c.emit_plain-2).ensures (λ h.
    subst (λ (y : Piece). Emits y nowhere c.args.builder.now (c.emit_plain-2).new.builder)
    (sym (each_other c.args.layout.now q c.args.around c.args.loops.first cs (formula_view c.args.loops.body.now) other (some_there cs c.is_empty.ensures c.if-is_empty.false)))
    (bracket_emitted (junction_of q) made c.in_ok-emit_plain.ensures c.in_ok-emit_loops.ensures h))

slot_small : (t : ℕ) (c : emit_loops-In-loop-begun t) → c.args.loops.first + c.loop-begun.begun < 256
slot_small t c =
    let b = c.loop-begun-test.true in
    small_slot c.args.loops.quantifier c.args.loops.first c.args.loops.carriers.now (formula_view c.args.loops.body.now) c.loop-begun.begun (omega (arith, b)) c.args.loops.small

pub emit_loops-overflow_add-slot : goal.emit_loops-overflow_add-slot
emit_loops-overflow_add-slot t c = omega (arith, slot_small t (goal.at.emit_loops-overflow_add-slot t c).In-loop-begun)

pub emit_loops-overflow_cast-slot : goal.emit_loops-overflow_cast-slot
emit_loops-overflow_cast-slot t c = omega (arith, slot_small t (goal.at.emit_loops-overflow_cast-slot t c).In-loop-begun)

pub emit_loops-loop-begun-preserved : goal.emit_loops-loop-begun-preserved
emit_loops-loop-begun-preserved t c = record {
  below = omega (arith, c.loop-begun-test.true);
  begins = subst (λ (n : ℕ). Begins c.args.loops.first n c.args.builder.now c.emit.new.self) (sym (add-one c.loop-begun.begun))
      (begins_more c.args.loops.first c.loop-begun.begun c.args.builder.now c.loop-begun.builder c.emit.new.self
      c.loop-begun.invariant.begins c.in_ok-emit.ensures.ok);
}

pub emit_loops-emit_formula-requires : goal.emit_loops-emit_formula-requires
emit_loops-emit_formula-requires t c =
    let l = c.args.loops in
    (omega (arith, c.decreases), small_body l.quantifier l.first l.carriers.now (formula_view l.body.now) l.small)

pub emit_loops-loop-ended-preserved : goal.emit_loops-loop-ended-preserved
emit_loops-loop-ended-preserved t c = record {
  below = omega (arith, c.loop-ended-test.true);
  closes = subst (λ (n : ℕ). Closes n c.emit_formula.new.builder (c.emit-in-loop-ended).new.self) (sym (add-one c.loop-ended.ended))
      (closes_more c.loop-ended.ended c.emit_formula.new.builder c.loop-ended.builder (c.emit-in-loop-ended).new.self
      c.loop-ended.invariant.closes (c.in_ok-emit-2).ensures.ok);
}

pub emit_loops-returns : goal.emit_loops-returns
emit_loops-returns t c =
    let cs = c.args.layout.now in
    let r = c.args.loops.quantifier in
    let m = junction_of r in
    let body = formula_piece cs m (formula_view c.args.loops.body.now) in
    let b1 = c.loop-begun-test.false in
    let b2 = c.loop-begun.invariant.below in
    let e1 = c.loop-ended-test.false in
    let e2 = c.loop-ended.invariant.below in
    let begun : c.loop-begun.begun ≡ length c.args.loops.carriers.now = omega (arith, b1, b2) in
    let ended : c.loop-ended.ended ≡ c.loop-begun.begun = omega (arith, b1, b2, e1, e2) in
    let inner : Emits body nowhere c.loop-begun.builder c.emit_formula.new.builder =
    subst (λ (k : Junction). Emits (formula_piece cs k (formula_view c.args.loops.body.now)) nowhere c.loop-begun.builder c.emit_formula.new.builder)
    c.junction_of.ensures c.in_ok-emit_formula.ensures in
    let all = c.loop-begun.invariant.begins body c.emit_formula.new.builder c.loop-ended.builder inner
    (subst (λ (k : ℕ). Closes k c.emit_formula.new.builder c.loop-ended.builder) ended c.loop-ended.invariant.closes) in
    subst (λ (q : Piece). Emits q nowhere c.args.builder.now c.loop-ended.builder)
    (ap (λ (k : ℕ). repeated c.args.loops.first k body) begun
    ∙ sym (each_repeated cs r c.args.loops.first c.args.loops.carriers.now (formula_view c.args.loops.body.now))) all

-- ---- joins of the bracket's kind

pub emit_inside-loop-behind-init : goal.emit_inside-loop-behind-init
emit_inside-loop-behind-init t c = all_left c.requires c.in_ok-last.ensures.label c.in_ok-last.ensures.ok

pub emit_inside-loop-behind-preserved-in-Some : goal.emit_inside-loop-behind-preserved-in-Some
emit_inside-loop-behind-preserved-in-Some t c =
    let m = c.args.kind in
    let early = c.in-Some.early in
    let left = c.loop-behind.left.now in
    let behind = c.loop-behind.behind.now in
    let moved : c.if-early.left.now ≡ other_of early.is_first left behind = elim c.if-early.branch [
      | emit_inside-then-early w ↦ rw w.left-is (second_left early.is_first left behind w.index-behind-0.result w.if-early.true c.in-Some.ensures.left w.index-behind-0.is)
      | emit_inside-else-early w ↦ rw w.left-is (first_left early.is_first left behind w.if-early.false)
    ] in
    guarded_left c.loop-behind.invariant early.is_first (tested_term early.test) c.in-Some.ensures.views c.in-Some.ensures.left moved c.in_ok-emit_tested.ensures
    (Choose (neutral m) (Plain (op.Emit (deciding_leaf m)))) (tested_own m (tested_term early.test))
    (λ x awaits. awaits_choose awaits c.in_ok-passed.ensures.label c.in_ok-passed.ensures.ok (rw c.neutral.ensures at c.in_ok-emit_jump.ensures.ok)
    (subst (λ (z : Leaf). Emits (Plain (op.Emit z)) nowhere c.emit_jump.new.self c.emit_plain.new.builder) c.deciding.ensures c.in_ok-emit_plain.ensures)
    (c.in_ok-emit_jump-2).ensures.ok c.place.ensures)

pub emit_inside-loop-behind-preserved : goal.emit_inside-loop-behind-preserved
emit_inside-loop-behind-preserved t c =
    next_left c.loop-behind.invariant c.index-behind-0-in_default.result (some_there c.loop-behind.behind.now c.is_empty.ensures c.loop-behind-test.true)
    c.index-behind-0-in_default.is (sym c.in_default.ensures.views) c.in_ok-emit_formula.ensures

pub emit_inside-returns : goal.emit_inside-returns
emit_inside-returns t c =
    last_left c.loop-behind.invariant (none_there c.loop-behind.behind.now c.is_empty.ensures c.loop-behind-test.false) (c.in_ok-emit_formula-2).ensures (c.place-2).ensures

-- ---- joins of the other kind

pub emit_outside-loop-early-init : goal.emit_outside-loop-early-init
emit_outside-loop-early-init t c = all_left c.requires c.in_ok-last.ensures.label c.in_ok-last.ensures.ok

pub emit_outside-loop-early-preserved : goal.emit_outside-loop-early-preserved
emit_outside-loop-early-preserved t c =
    let early = c.in-Some.early in
    let left = c.loop-early.left.now in
    let behind = c.loop-early.behind.now in
    let moved : c.if-early.left.now ≡ other_of early.is_first left behind = elim c.if-early.branch [
      | emit_outside-then-early w ↦ rw w.left-is (second_left early.is_first left behind w.index-behind-0.result w.if-early.true c.in-Some.ensures.left w.index-behind-0.is)
      | emit_outside-else-early w ↦ rw w.left-is (first_left early.is_first left behind w.if-early.false)
    ] in
    guarded_left c.loop-early.invariant early.is_first (tested_term early.test) c.in-Some.ensures.views c.in-Some.ensures.left moved c.in_ok-emit_tested.ensures
    (Unless (neutral c.args.around)) (tested_other c.args.around (tested_term early.test))
    (λ x awaits. awaits_unless awaits (rw c.neutral.ensures at c.in_ok-emit_jump.ensures.ok))

-- one operand alone is left
pub emit_outside-emit_formula-requires : goal.emit_outside-emit_formula-requires
emit_outside-emit_formula-requires t c =
    let w = c.loop-early.invariant in
    let none = none_there c.loop-early.behind.now c.is_empty.ensures c.if-is_empty.true in (
      omega (arith, c.decreases, w.lighter),
      subst (λ (fs : List Formula). is_small_formula (chained_formula (Join (dual c.args.around)) (formula_view c.loop-early.left.now) (formula_views fs)) ≡ true) none w.small,
    )

pub emit_outside-returns-then-is_empty : goal.emit_outside-returns-then-is_empty
emit_outside-returns-then-is_empty t c =
    let a = c.args.around in
    let none = none_there c.loop-early.behind.now c.is_empty.ensures c.if-is_empty.true in
    awaits_no_more c.loop-early.invariant.awaits
    (subst (λ (fs : List Formula). Emits (operands_piece c.args.layout.now (dual a) a c.loop-early.left.now fs) nowhere c.loop-early.builder c.emit_formula.new.builder)
    (sym none) c.in_ok-emit_formula.ensures) c.place.ensures

-- and more than one, in a bracket
pub emit_outside-emit_inside-requires : goal.emit_outside-emit_inside-requires
emit_outside-emit_inside-requires t c =
    let w = c.loop-early.invariant in (
      omega (arith, c.decreases, w.lighter),
      subst (λ (m : Junction). is_small_formula (chained_formula (Join m) (formula_view c.loop-early.left.now) (formula_views c.loop-early.behind.now)) ≡ true)
          (sym c.dual-kind.ensures) w.small,
    )

pub emit_outside-returns : goal.emit_outside-returns
emit_outside-returns t c =
    let a = c.args.around in
    let left = c.loop-early.left.now in
    let behind = c.loop-early.behind.now in
    let piece : Junction → Piece = λ m. operands_piece c.args.layout.now m m left behind in
    let kind = c.dual-kind.ensures in
    awaits_no_more c.loop-early.invariant.awaits
    (subst (λ (q : Piece). Emits q nowhere c.loop-early.builder (c.emit_plain-2).new.builder)
    (sym (untested c.args.layout.now a (formula_view left) behind (some_there behind c.is_empty.ensures c.if-is_empty.false) (sym c.in_default.ensures.views)))
    (bracket_emitted (dual a) kind c.in_ok-emit_plain.ensures
    (subst (λ (m : Junction). Emits (piece m) nowhere c.emit_plain.new.builder c.emit_inside.new.builder) kind c.in_ok-emit_inside.ensures) (c.in_ok-emit_plain-2).ensures))
    (c.place-2).ensures
