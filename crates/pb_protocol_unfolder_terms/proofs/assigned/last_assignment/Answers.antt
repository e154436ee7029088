use Rattle.std.proofs.Common.{◌-◌, false, arith}
use Rattle.pb_text_meaning.specs.Syntax.{Term}
use Rattle.pb_protocol_unfolding.specs.Unfolding.{name_of}
use Rattle.pb_protocol_unfolder_terms.specs.Assigned.{element_said}
use Rattle.pb_protocol_unfolder_terms.specs.Contexts.{folding_in}
use Rattle.pb_protocol_unfolder_terms.proofs.AfterLemmas.{element_after}
use Rattle.pb_protocol_unfolder_terms.proofs.LatestLemmas.{IsNextAt, all-passed, compared-at, comparison-refused, comparison-told, condition-counts, condition-passed, names-agree, names-differ, next-at, next-room-told, next-without-room, none-passed, other-passed}
use Rattle.pb_protocol_unfolder_terms.proofs.assigned.last_assignment.Goals as goal
use Rattle.pb_protocol_unfolder_terms.proofs.assigned.last_assignment.Goals.{After-behind_one}

pub loop-place-init : goal.loop-place-init
loop-place-init c =
    none-passed c.args.context.now c.args.level c.args.scope.now c.args.copies.now c.args.element

pub loop-place-preserved-then-ne : goal.loop-place-preserved-then-ne
loop-place-preserved-then-ne c =
    other-passed c.args.context.now c.args.level c.args.scope.now c.args.copies.now c.args.element c.loop-place.place (omega (arith, c.loop-place-test.true))
    c.loop-place.auto.place c.index-copies-place.is
    (names-differ c.as_str.ensures.value c.as_str-in-loop-place.ensures.value c.ne.ensures c.if-ne.true) c.loop-place.invariant

-- the copy at the place is to the element's array
next : (c : After-behind_one)
    → IsNextAt c.args.context.now c.args.level c.args.scope.now c.args.copies.now c.args.element (c.loop-place.place - 1) c.index-copies-place.result c.loop-place.passed c.loop-place.room
next c =
    next-at c.args.context.now c.args.level c.args.scope.now c.args.copies.now c.args.element c.loop-place.place (omega (arith, c.loop-place-test.true)) c.loop-place.auto.place
    c.index-copies-place.is (names-agree c.as_str.ensures.value c.as_str-in-loop-place.ensures.value c.ne.ensures c.if-ne.false) c.loop-place.invariant

pub returns-in_err-behind_one-clause-latest : goal.returns-in_err-behind_one-clause-latest
returns-in_err-behind_one-clause-latest c =
    next-without-room (next (goal.at.returns-in_err-behind_one-clause-latest c).After-behind_one) c.from_residual.result c.in_err-behind_one.field-0.0 c.from_residual.ensures.1
    c.in_err-behind_one.ensures.0 c.in_err-behind_one.ensures.1

pub returns-in_err-behind_one-clause-faults : goal.returns-in_err-behind_one-clause-faults
returns-in_err-behind_one-clause-faults c =
    λ values. next-room-told (next (goal.at.returns-in_err-behind_one-clause-faults c).After-behind_one) c.from_residual.result c.in_err-behind_one.field-0.0 c.from_residual.ensures.1
    c.in_err-behind_one.ensures.0

pub returns-in_err-condition-clause-latest : goal.returns-in_err-condition-clause-latest
returns-in_err-condition-clause-latest c =
    let at = goal.at.returns-in_err-condition-clause-latest c in
    comparison-refused (compared-at (next at.After-behind_one) c.in_ok-behind_one.ensures) c.from_residual-in_err-condition.result c.in_err-condition.field-0.0
    c.from_residual-in_err-condition.ensures.1 c.in_err-condition.ensures.term

pub returns-in_err-condition-clause-faults : goal.returns-in_err-condition-clause-faults
returns-in_err-condition-clause-faults c =
    let at = goal.at.returns-in_err-condition-clause-faults c in
    comparison-told (compared-at (next at.After-behind_one) c.in_ok-behind_one.ensures) c.from_residual-in_err-condition.result c.in_err-condition.field-0.0
    c.from_residual-in_err-condition.ensures.1 c.in_err-condition.ensures.faults

pub loop-place-preserved : goal.loop-place-preserved
loop-place-preserved c =
    let at = goal.at.loop-place-preserved c in
    condition-passed (compared-at (next at.After-behind_one) c.in_ok-behind_one.ensures) c.in_ok-condition.ensures.term (c.decides.ensures c.if-not-decides.false) c.room_behind-room.ensures

pub returns-then-not-decides-clause-latest : goal.returns-then-not-decides-clause-latest
returns-then-not-decides-clause-latest c =
    let at = goal.at.returns-then-not-decides-clause-latest c in
    condition-counts (compared-at (next at.After-behind_one) c.in_ok-behind_one.ensures) c.in_ok-condition.ensures.term

pub returns-clause-latest : goal.returns-clause-latest
returns-clause-latest c =
    λ sort. c.passed_over.ensures (folding_in c.args.context.now) c.args.level.room c.loop-place.room
    (element_after c.args.context.now c.args.level c.args.scope.now c.args.copies.now c.args.element sort) (Term.Named (name_of (element_said c.args.element sort)))
    (all-passed c.args.context.now c.args.level c.args.scope.now c.args.copies.now c.args.element (omega (arith, c.loop-place-test.false)) c.loop-place.invariant sort)
    (c.in_ok-unfolded.ensures (folding_in c.args.context.now) sort false)
