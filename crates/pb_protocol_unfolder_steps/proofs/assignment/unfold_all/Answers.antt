use Rattle.std.proofs.Common.{◌∙◌, ap, sym, inl, inr, subst, List, map}
use Rattle.pb_protocol_tree.specs.Form.{assignment_form}
use Rattle.pb_protocol_meaning.specs.Steps.{data_of}
use Rattle.pb_protocol_unfolding.specs.Unfolding.{Element, all_elements}
use Rattle.pb_protocol_unfolder_terms.specs.declared.copies.AssignmentCopy.{AssignmentCopy}
use Rattle.pb_protocol_unfolder_terms.specs.declared.copies.Spread.{Spread}
use Rattle.pb_protocol_unfolder_terms.specs.AssignmentCopies.{AreCopiesOf, AreSpreadsOf}
use Rattle.pb_protocol_unfolder_terms.specs.TermFaults.{IsFaultInCopying}
use Rattle.pb_protocol_unfolder_steps.specs.Elements.{flat_element}
use Rattle.pb_protocol_unfolder_steps.specs.StepFaults.{IsFaultInAssigned, IsFaultInElements, OnTerm, WithValues}
use Rattle.pb_protocol_unfolder_steps.specs.Steps.{changes, protocol_assignments}
use Rattle.pb_protocol_unfolder_steps.specs.Unfolder.{form_in, protocol_in, scope_within}
use Rattle.pb_protocol_unfolder_steps.proofs.OkLemmas.{if-ok}
use Rattle.pb_protocol_unfolder_steps.proofs.RefusalLemmas.{refused, refused-so}
use Rattle.pb_protocol_unfolder_steps.proofs.StepFaultLemmas.{term-in}
use Rattle.pb_protocol_unfolder_steps.proofs.assignment.unfold_all.Goals as goal
use Rattle.pb_protocol_unfolder_steps.proofs.assignment.unfold_all.Goals.{After-unfold_assignments}

-- the copies are those of the step's assignments
copied : (c : After-unfold_assignments) → AreCopiesOf (data_of (protocol_in c.args.unfolder.now)) c.args.assignments.now c.deref-2.result.now
copied c =
    let S = data_of (protocol_in c.args.unfolder.now) in
    let spread = subst (λ (ss : List Spread). AreSpreadsOf S c.args.assignments.now ss) (sym c.deref.ensures.value) c.in_ok-spreads.ensures.spreads in
    subst (λ (cs : List AssignmentCopy). AreCopiesOf S c.args.assignments.now cs) (sym c.deref-2.ensures.value) (c.in_ok-copies.ensures.all S c.args.assignments.now spread)

pub returns-clause-assignments : goal.returns-clause-assignments
returns-clause-assignments c =
    let u = c.args.unfolder.now in
    let are = copied (goal.at.returns-clause-assignments c).After-unfold_assignments in
    let bs = protocol_assignments c.args.assignments.now in
    if-ok c.unfold_assignments.result
    (λ v same. same ∙ ap (λ (es : List Element). changes (protocol_in u) (scope_within u c.args.scope.now) bs es) c.elements.ensures.all)
    (c.unfold_assignments.ensures.assignments c.args.assignments.now are)

pub returns-clause-refused : goal.returns-clause-refused
returns-clause-refused c =
    let u = c.args.unfolder.now in
    let F = form_in u in
    let ρ = scope_within u c.args.scope.now in
    let bs = map assignment_form c.args.assignments.now in
    let are = copied (goal.at.returns-clause-refused c).After-unfold_assignments in
    let es = map flat_element c.elements.result.now in
    let P = WithValues c.args.scope.now (IsFaultInElements F ρ bs es) in
    let Q = WithValues c.args.scope.now (IsFaultInAssigned F ρ bs (all_elements (protocol_in u))) in
    refused-so (OnTerm P) (OnTerm Q) c.unfold_assignments.result
    (term-in P Q (λ r p o v. inr (subst (λ (ds : List Element). IsFaultInElements F ρ bs ds r p) c.elements.ensures.all (o v)))) (c.unfold_assignments.ensures.refused c.args.assignments.now are)

-- too many are written out
pub returns-in_err-spreads-clause-refused : goal.returns-in_err-spreads-clause-refused
returns-in_err-spreads-clause-refused c =
    let u = c.args.unfolder.now in
    let bs = map assignment_form c.args.assignments.now in
    let P = IsFaultInCopying (data_of (protocol_in u)) bs in
    let Q = WithValues c.args.scope.now (IsFaultInAssigned (form_in u) (scope_within u c.args.scope.now) bs (all_elements (protocol_in u))) in
    refused c.from_residual.result c.in_err-spreads.field-0.0 (OnTerm P) (OnTerm Q) c.from_residual.ensures.1 (term-in P Q (λ r p o v. inl o)) c.in_err-spreads.ensures.refused
