use Rattle.std.proofs.Common.{◌≡◌, ◌∙◌, ◌≤◌, ℕ, Some, sym, ap, subst, take, arith, length}
use Rattle.std.proofs.lemmas.List.{length-take-le}
use Rattle.pb_text_meaning.specs.Functions.{named_function}
use Rattle.pb_text_meaning.specs.Syntax.{Name}
use Rattle.pb_protocol_folding.specs.Folding.{is_if}
use Rattle.pb_protocol_unfolder_terms.specs.Assigned.{IsLatest, element_said, placed_by}
use Rattle.pb_protocol_unfolder_terms.specs.Unfolding.{IsRefusal}
use Rattle.pb_protocol_unfolder_terms.proofs.ChainLemmas.{err-kept}
use Rattle.pb_protocol_unfolder_terms.proofs.ChoiceLemmas.{choice-held, if-named}
use Rattle.pb_protocol_unfolder_terms.specs.Tells.{surroundings_in}
use Rattle.pb_protocol_unfolder_terms.specs.TermFaults.{IfFaultAt, IsFaultInCopies}
use Rattle.pb_protocol_unfolder_terms.proofs.LargeLemmas.{copies-deep}
use Rattle.pb_protocol_unfolder_terms.proofs.MetLemmas.{err-told, item-in}
use Rattle.pb_protocol_unfolder_terms.proofs.AfterLemmas.{IsAssignedAt, assigned-at, element_after, latest-within, rest-refused, rest-told, rest-unfolded, value-refused, value-told, value-unfolded}
use Rattle.pb_protocol_unfolder_terms.proofs.assigned.+unfold_after.Goals as goal
use Rattle.pb_protocol_unfolder_terms.proofs.assigned.+unfold_after.Goals.{After-truth_value}

pub bounds-copies-place : goal.bounds-copies-place
bounds-copies-place t c =
    latest-within c.args.context.now c.args.level c.args.scope.now c.args.copies.now c.args.element c.in_ok-latest.ensures.latest c.in-Assigned.is

pub offset_bounds-copies-place : goal.offset_bounds-copies-place
offset_bounds-copies-place t c =
    omega (arith, latest-within c.args.context.now c.args.level c.args.scope.now c.args.copies.now c.args.element c.in_ok-latest.ensures.latest c.in-Assigned.is)

pub slice_bounds-unfold_after-end : goal.slice_bounds-unfold_after-end
slice_bounds-unfold_after-end t c =
    let within : c.in-Assigned.place ≤ length c.args.copies.now =
    omega (arith, latest-within c.args.context.now c.args.level c.args.scope.now c.args.copies.now c.args.element c.in_ok-latest.ensures.latest c.in-Assigned.is) in
    let size : length (take c.in-Assigned.place c.args.copies.now) ≡ c.in-Assigned.place = length-take-le c.in-Assigned.place c.args.copies.now within in
    omega (arith, within, size)

-- the copy at the place counts
assigned : (t : ℕ) (c : After-truth_value t)
    → IsAssignedAt c.args.context.now c.args.level c.args.scope.now c.args.copies.now c.args.element c.in-Assigned.place c.index-copies-place.result c.in-Assigned.condition
assigned t c =
    assigned-at c.args.context.now c.args.level c.args.scope.now c.args.copies.now c.args.element c.in_ok-latest.ensures.latest c.in-Assigned.is c.index-copies-place.is

pub returns-in_err-latest-clause-term : goal.returns-in_err-latest-clause-term
returns-in_err-latest-clause-term t c =
    λ sort. err-kept c.from_residual.result c.in_err-latest.field-0.0 _
    (IsRefusal c.args.level.room (element_after c.args.context.now c.args.level c.args.scope.now c.args.copies.now c.args.element sort))
    c.from_residual.ensures.1 (c.in_err-latest.ensures.latest sort)

pub returns-in-Unassigned-clause-term : goal.returns-in-Unassigned-clause-term
returns-in-Unassigned-clause-term t c =
    λ sort. subst (IsLatest c.args.context.now c.args.level.definitions c.args.level.room c.args.scope.now c.args.copies.now (element_said c.args.element sort)) c.in-Unassigned.is
    (c.in_ok-latest.ensures.latest sort)

pub returns-in-Some-true-clause-term : goal.returns-in-Some-true-clause-term
returns-in-Some-true-clause-term t c =
    value-unfolded (assigned t (goal.at.returns-in-Some-true-clause-term t c).After-truth_value)
    (ap Some (sym c.in-Some-true.field-0-test) ∙ c.in-Some-true.ensures) c.in_ok-unfold_value-in-Assigned.ensures.term c.chosen.ensures

pub returns-in_err-unfold_value-in-Assigned-clause-term : goal.returns-in_err-unfold_value-in-Assigned-clause-term
returns-in_err-unfold_value-in-Assigned-clause-term t c =
    value-refused (assigned t (goal.at.returns-in_err-unfold_value-in-Assigned-clause-term t c).After-truth_value)
    c.from_residual-in_err-unfold_value-in-Assigned.result c.in_err-unfold_value-in-Assigned.field-0.0
    c.from_residual-in_err-unfold_value-in-Assigned.ensures.1 c.in_err-unfold_value-in-Assigned.ensures.term

pub returns-in_err-condition-in-Assigned-clause-term : goal.returns-in_err-condition-in-Assigned-clause-term
returns-in_err-condition-in-Assigned-clause-term t c =
    value-refused (assigned t (goal.at.returns-in_err-condition-in-Assigned-clause-term t c).After-truth_value)
    c.from_residual-in_err-condition-in-Assigned.result c.in_err-condition-in-Assigned.field-0.0 c.from_residual-in_err-condition-in-Assigned.ensures.1
    (rw c.in_err-condition-in-Assigned.ensures at c.unfold_value-left.ensures.term)

pub returns-in_err-condition-in-Assigned-2-clause-term : goal.returns-in_err-condition-in-Assigned-2-clause-term
returns-in_err-condition-in-Assigned-2-clause-term t c =
    rest-refused (assigned t (goal.at.returns-in_err-condition-in-Assigned-2-clause-term t c).After-truth_value)
    c.from_residual-in_err-condition-in-Assigned-2.result c.in_err-condition-in-Assigned-2.field-0.0 c.from_residual-in_err-condition-in-Assigned-2.ensures.1
    (rw c.in_ok-condition-in-Assigned.ensures.1 at c.unfold_value-left.ensures.term)
    (rw c.in_err-condition-in-Assigned-2.ensures at c.unfold_after-right.ensures.term)

pub choice-requires : goal.choice-requires
choice-requires t c =
    ap (λ (f : Name). is_if (named_function f)) c.in-Ok.ensures ∙ if-named

pub returns-in_ok-choice-in-Assigned-clause-term : goal.returns-in_ok-choice-in-Assigned-clause-term
returns-in_ok-choice-in-Assigned-clause-term t c =
    rest-unfolded (assigned t (goal.at.returns-in_ok-choice-in-Assigned-clause-term t c).After-truth_value)
    c.in-Ok.name c.folding.ensures c.in-Ok.ensures (rw c.in_ok-condition-in-Assigned.ensures.1 at c.unfold_value-left.ensures.term)
    (rw c.in_ok-condition-in-Assigned-2.ensures.1 at c.unfold_after-right.ensures.term)
    (choice-held _ c.in-Ok.name c.in_ok-condition-in-Assigned-2.ensures.0 c.in_ok-condition-in-Assigned.ensures.0 c.in_ok-choice-in-Assigned.ensures)

pub returns-in_err-unfold_value-in-Assigned-clause-faults : goal.returns-in_err-unfold_value-in-Assigned-clause-faults
returns-in_err-unfold_value-in-Assigned-clause-faults t c =
    value-told (assigned t (goal.at.returns-in_err-unfold_value-in-Assigned-clause-faults t c).After-truth_value)
    c.from_residual-in_err-unfold_value-in-Assigned.result c.in_err-unfold_value-in-Assigned.field-0.0
    c.from_residual-in_err-unfold_value-in-Assigned.ensures.1 c.in_err-unfold_value-in-Assigned.ensures.faults

pub returns-in_err-condition-in-Assigned-clause-faults : goal.returns-in_err-condition-in-Assigned-clause-faults
returns-in_err-condition-in-Assigned-clause-faults t c =
    value-told (assigned t (goal.at.returns-in_err-condition-in-Assigned-clause-faults t c).After-truth_value)
    c.from_residual-in_err-condition-in-Assigned.result c.in_err-condition-in-Assigned.field-0.0 c.from_residual-in_err-condition-in-Assigned.ensures.1
    (rw c.in_err-condition-in-Assigned.ensures at c.unfold_value-left.ensures.faults)

pub returns-in_err-latest-clause-faults : goal.returns-in_err-latest-clause-faults
returns-in_err-latest-clause-faults t c =
    λ v. err-told c.from_residual.result c.in_err-latest.field-0.0
    (IfFaultAt (IsFaultInCopies (surroundings_in c.args.context.now) c.args.level.depth c.args.level.definitions (placed_by c.args.context.now c.args.scope.now c.args.copies.now)))
    c.from_residual.ensures.1 (c.in_err-latest.ensures.faults v)

pub returns-in_err-condition-in-Assigned-2-clause-faults : goal.returns-in_err-condition-in-Assigned-2-clause-faults
returns-in_err-condition-in-Assigned-2-clause-faults t c =
    rest-told (assigned t (goal.at.returns-in_err-condition-in-Assigned-2-clause-faults t c).After-truth_value)
    c.from_residual-in_err-condition-in-Assigned-2.result c.in_err-condition-in-Assigned-2.field-0.0 c.from_residual-in_err-condition-in-Assigned-2.ensures.1
    (omega (arith, c.in-Some.ensures.0, c.in-Some.ensures.1)) (rw c.in_err-condition-in-Assigned-2.ensures at c.unfold_after-right.ensures.faults)

pub returns-in_default-checked_sub-clause-faults : goal.returns-in_default-checked_sub-clause-faults
returns-in_default-checked_sub-clause-faults t c =
    let a = c.index-copies-place.result in
    let is = assigned t (goal.at.returns-in_default-checked_sub-clause-faults t c).After-truth_value in
    λ v. copies-deep (surroundings_in c.args.context.now) c.args.level.depth c.args.level.definitions c.args.context.now c.args.scope.now c.args.copies.now a c.refused.result
    c.refused.ensures (item-in c.args.copies.now c.in-Assigned.place a is.within is.there) (omega (arith, c.in_default-checked_sub.ensures))
