use Rattle.std.proofs.Common.{◌∙◌, ap, subst, List, map, string_bytes}
use Rattle.pb_base.specs.OrMemory.{IfFault}
use Rattle.pb_text_tree.specs.declared.place.Place.{Place}
use Rattle.pb_text_meaning.specs.Syntax.{Term}
use Rattle.pb_protocol_unfolder_terms.specs.declared.fault.UnfoldRule.{UnfoldRule}
use Rattle.pb_protocol_unfolder_terms.specs.declared.written.Written.{Written}
use Rattle.pb_protocol_unfolder_terms.specs.Values.{written_term}
use Rattle.pb_protocol_unfolder_steps.specs.Elements.{element_at}
use Rattle.pb_protocol_unfolder_steps.specs.Steps.{element_assigned, protocol_assignments}
use Rattle.pb_protocol_unfolder_steps.specs.Unfolder.{form_in, protocol_in, scope_within}
use Rattle.pb_protocol_tree.specs.declared.protocol.Protocol.{Protocol}
use Rattle.pb_protocol_tree.specs.Form.{assignment_form, protocol_form}
use Rattle.pb_protocol_unfolder_steps.specs.TermContexts.{IsContextOf}
use Rattle.pb_protocol_unfolder_terms.specs.TermFaults.{HasValues, IsFaultInElement, surroundings_of}
use Rattle.pb_protocol_unfolder_steps.specs.StepFaults.{OnTerm, WithValues}
use Rattle.pb_protocol_unfolder_steps.proofs.StepFaultLemmas.{term-told-so}
use Rattle.pb_protocol_unfolder_steps.proofs.unfolder.Unfolder.unfold_assigned.Goals as goal

pub returns-in-Ok-clause-term : goal.returns-in-Ok-clause-term
returns-in-Ok-clause-term c = λ all are.
    let e = c.args.element.now in
    let assigned_at : List Written → Term = λ ks. element_assigned (protocol_in c.args.self.now) (scope_within c.args.self.now c.args.scope.now) (protocol_assignments all)
    (element_at e.name.now e.sort.now (map written_term ks)) in
    let here = subst (λ (p : Protocol). IsContextOf (protocol_form p) c.self.inside.context) c.self.view_is c.self.invariant.0 in
    (c.in-Ok.ensures.term (protocol_in c.args.self.now) (string_bytes e.sort.now.text) all here.context are).term ∙ ap assigned_at c.deref.ensures.value

pub returns-in-Err-clause-refused : goal.returns-in-Err-clause-refused
returns-in-Err-clause-refused c = λ all are.
    let u = c.args.self.now in
    let P : List Term → UnfoldRule → Place → Type 0 =
    λ ks. IsFaultInElement (surroundings_of (form_in u)) (scope_within u c.args.scope.now) (map assignment_form all)
    (element_at c.args.element.now.name.now c.args.element.now.sort.now ks) in
    let here = subst (λ (p : Protocol). IsContextOf (protocol_form p) c.self.inside.context) c.self.view_is c.self.invariant.0 in
    let same = ap (λ (ks : List Written). map written_term ks) c.deref.ensures.value in
    subst (λ (ks : List Term). IfFault c.of_term.result (OnTerm (WithValues c.args.scope.now (P ks)))) same
    (term-told-so (HasValues c.args.scope.now) (P (map written_term c.deref.result.now)) c.in-Err.error c.of_term.result c.of_term.ensures
    (c.in-Err.ensures.faults (surroundings_of (form_in u)) (string_bytes c.args.element.now.sort.now.text) all here.surroundings are))
