use Rattle.std.proofs.Common.{map}
use Rattle.pb_protocol_tree.specs.Form.{assignment_form}
use Rattle.pb_protocol_unfolder_terms.specs.TermFaults.{IsFaultInElement, surroundings_of}
use Rattle.pb_protocol_unfolder_terms.proofs.MetLemmas.{item-in, mapped-in}
use Rattle.pb_protocol_unfolder_steps.specs.Elements.{flat_element}
use Rattle.pb_protocol_unfolder_steps.specs.StepFaults.{IsFaultInElements, OnTerm, WithValues}
use Rattle.pb_protocol_unfolder_steps.specs.Unfolder.{form_in, scope_within}
use Rattle.pb_protocol_unfolder_steps.proofs.RefusalLemmas.{refused}
use Rattle.pb_protocol_unfolder_steps.proofs.StepFaultLemmas.{term-in}
use Rattle.pb_protocol_unfolder_steps.proofs.assignment.unfold_assignments.Goals as goal

pub returns-in_err-push_assignment-clause-refused : goal.returns-in_err-push_assignment-clause-refused
returns-in_err-push_assignment-clause-refused c = λ all are.
    let F = form_in c.args.unfolder.now in
    let ρ = scope_within c.args.unfolder.now c.args.scope.now in
    let bs = map assignment_form all in
    let es = c.args.elements.now in
    let e = c.element-item.result in
    let P = WithValues c.args.scope.now (IsFaultInElement (surroundings_of F) ρ bs (flat_element e)) in
    let Q = WithValues c.args.scope.now (IsFaultInElements F ρ bs (map flat_element es)) in
    let there = mapped-in flat_element es e (item-in es c.loop-element.element-index e c.loop-element-test.true c.element-item.is) in
    refused c.from_residual.result c.in_err-push_assignment.field-0.0 (OnTerm P) (OnTerm Q)
    c.from_residual.ensures.1 (term-in P Q (λ r p o v. (flat_element e, there, o v))) (c.in_err-push_assignment.ensures.refused all are)
