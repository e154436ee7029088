use Rattle.std.proofs.Common.{◌≤◌, ◌+◌, sym, subst, refl, arith, ℕ, length}
use Rattle.pb_base_values.specs.Carrier.{Tuple}
use Rattle.pb_typing_tree.specs.View.{formula_view}
use Rattle.pb_typing_tree.specs.Fits.{FormulaFits}
use Rattle.pb_typing_values.specs.Environment.{environment_of}
use Rattle.pb_typing_values.specs.Slots.{slots_of}
use Rattle.pb_typing_values.proofs.FormulaLinks.{chain-read, chain-begun, first-fits, link-fits, link-lighter, IsChain}
use Rattle.pb_typing_values.proofs.Nested.{room}
use Rattle.pb_typing_values.proofs.Turns.{same-test, other-test, way-start, way-fits, part-at, decided-truth, decided-cleared, ended-truth, ended-cleared, next-under-way, fewer-behind, IsTried}
use Rattle.pb_typing_values.proofs.formula.+formulas.Goals as goal
use Rattle.pb_typing_values.proofs.formula.+formulas.Goals.{formula_truth-After-deref-in-Chain, quantified-Else-count-eq0, quantified-After-formula_truth-holds}

-- ---- chains

read_chain : (t : ℕ) (c : formula_truth-After-deref-in-Chain t) → IsChain c.args.formula.now c.in-Chain.connective c.deref-in-Chain.result.now c.in-Chain.links.items
read_chain t c = chain-read c.in-Chain.connective c.in-Chain.first c.in-Chain.links c.in-Chain.is c.deref-in-Chain.ensures

pub formula_truth-formula_truth-current-requires : goal.formula_truth-formula_truth-current-requires
formula_truth-formula_truth-current-requires t c =
    let chain = read_chain t (goal.at.formula_truth-formula_truth-current-requires t c).After-deref-in-Chain in (
      omega (arith, c.decreases, chain.weighs),
      first-fits chain (length c.args.environment.now.layout.now) (length c.args.slots.now) (slots_of c.args.slots.now) c.requires,
    )

pub formula_truth-loop-link-init : goal.formula_truth-loop-link-init
formula_truth-loop-link-init t c =
    let chain = read_chain t (goal.at.formula_truth-loop-link-init t c).After-deref-in-Chain in
    let first = c.formula_truth-current.ensures in
    record {
      kept = first.kept;
      truth = λ S laid.
          chain-begun chain S (slots_of c.args.slots.now) (environment_of S c.args.environment.now.truths.now) (first.truth S laid) c.deref-link-items.ensures.value;
    }

pub formula_truth-formula_truth-current-requires-in-loop-link : goal.formula_truth-formula_truth-current-requires-in-loop-link
formula_truth-formula_truth-current-requires-in-loop-link t c =
    let chain = read_chain t (goal.at.formula_truth-formula_truth-current-requires-in-loop-link t c).After-deref-in-Chain in
    let k = length c.args.environment.now.layout.now in
    let same = c.deref-link-items.ensures.value in
    let i = c.loop-link.link-index in
    let link = c.link-item in (
      omega (arith, c.decreases, link-lighter chain same i link.result c.loop-link-test.true link.is),
      subst (λ (ys : Tuple). FormulaFits k (length ys) (slots_of ys) (formula_view link.result)) (sym c.loop-link.invariant.kept)
          (link-fits chain k (length c.args.slots.now) (slots_of c.args.slots.now) c.requires same i link.result c.loop-link-test.true link.is),
    )

-- ---- quantifiers

-- the quantifier's slots are there
within : (t : ℕ) (c : quantified-Else-count-eq0 t) → c.args.loops.now.slot + length c.args.loops.now.carriers.now ≤ length c.args.slots.now
within t c =
    let loops = c.args.loops.now in
    let xs = c.args.slots.now in
    let there =
    room (length c.args.environment.now.layout.now) (length xs) c.args.quantifier (formula_view c.args.body.now) loops.carriers.now loops.slot (slots_of xs) c.requires in
    there.within (omega (arith, c.if-count-eq0.false))

pub quantified-overflow_add-end : goal.quantified-overflow_add-end
quantified-overflow_add-end t c = omega (arith, within t (goal.at.quantified-overflow_add-end t c).Else-count-eq0)

pub quantified-offset_bounds-slots-loops : goal.quantified-offset_bounds-slots-loops
quantified-offset_bounds-slots-loops t c = omega (arith, within t (goal.at.quantified-offset_bounds-slots-loops t c).Else-count-eq0)

pub quantified-slice_bounds-start-end : goal.quantified-slice_bounds-start-end
quantified-slice_bounds-start-end t c = omega (arith, within t (goal.at.quantified-slice_bounds-start-end t c).Else-count-eq0)

pub quantified-loop-quantifier-init : goal.quantified-loop-quantifier-init
quantified-loop-quantifier-init t c =
    let loops = c.args.loops.now in
    let environment = c.args.environment.now in
    way-start environment.layout.now environment.truths.now c.args.quantifier (formula_view c.args.body.now) loops.carriers.now loops.slot c.args.slots.now
    c.start.new.values c.requires (omega (arith, c.if-count-eq0.false)) c.start.ensures.first

pub quantified-formula_truth-holds-requires : goal.quantified-formula_truth-holds-requires
quantified-formula_truth-holds-requires t c = (omega (arith, c.decreases), way-fits c.loop-quantifier.invariant c.requires)

tried_body : (t : ℕ) (c : quantified-After-formula_truth-holds t)
    → IsTried c.args.environment.now.layout.now c.args.environment.now.truths.now c.args.quantifier (formula_view c.args.body.now) c.args.loops.now.carriers.now c.args.loops.now.slot
    c.args.slots.now c.loop-quantifier.slots c.formula_truth-holds.new.slots c.formula_truth-holds.result
tried_body t c = record { way = c.loop-quantifier.invariant; kept = c.formula_truth-holds.ensures.kept; is = c.formula_truth-holds.ensures.truth }

pub quantified-returns-then-holds-deciding-clause-truth : goal.quantified-returns-then-holds-deciding-clause-truth
quantified-returns-then-holds-deciding-clause-truth t c =
    decided-truth (tried_body t (goal.at.quantified-returns-then-holds-deciding-clause-truth t c).After-formula_truth-holds)
    (same-test _ _ _ c.if-holds-deciding.true c.deciding.ensures)

pub quantified-returns-then-holds-deciding-clause-kept : goal.quantified-returns-then-holds-deciding-clause-kept
quantified-returns-then-holds-deciding-clause-kept t c =
    decided-cleared (tried_body t (goal.at.quantified-returns-then-holds-deciding-clause-kept t c).After-formula_truth-holds) c.clear.ensures

pub quantified-returns-then-not-advance-clause-truth : goal.quantified-returns-then-not-advance-clause-truth
quantified-returns-then-not-advance-clause-truth t c =
    let tried = tried_body t (goal.at.quantified-returns-then-not-advance-clause-truth t c).After-formula_truth-holds in
    ended-truth tried (other-test _ _ _ c.if-holds-deciding.false c.deciding.ensures) (c.if-not-advance.ensures.last tried.way.place (part-at tried) refl)

pub quantified-returns-then-not-advance-clause-kept : goal.quantified-returns-then-not-advance-clause-kept
quantified-returns-then-not-advance-clause-kept t c =
    ended-cleared (tried_body t (goal.at.quantified-returns-then-not-advance-clause-kept t c).After-formula_truth-holds)
    c.advance.new.values c.if-not-advance.ensures.count c.clear-then-not-advance.ensures

pub quantified-loop-quantifier-preserved : goal.quantified-loop-quantifier-preserved
quantified-loop-quantifier-preserved t c =
    let tried = tried_body t (goal.at.quantified-loop-quantifier-preserved t c).After-formula_truth-holds in
    next-under-way tried (other-test _ _ _ c.if-holds-deciding.false c.deciding.ensures) (c.if-not-advance.ensures.next tried.way.place (part-at tried) refl)

pub quantified-loop-quantifier-smaller : goal.quantified-loop-quantifier-smaller
quantified-loop-quantifier-smaller t c =
    let tried = tried_body t (goal.at.quantified-loop-quantifier-smaller t c).After-formula_truth-holds in
    fewer-behind tried (c.if-not-advance.ensures.next tried.way.place (part-at tried) refl)
