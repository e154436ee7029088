use Rattle.std.proofs.Common.{◌∙◌, ap, sym, true, List, [], ◌∷◌, map}
use Rattle.pb_protocol_tree.specs.declared.step.Assignment.{Assignment}
use Rattle.pb_text_tree.specs.declared.name.Name.{Name}
use Rattle.pb_model_meaning.specs.Syntax as flat
use Rattle.pb_protocol_folding.specs.Folding.{folded}
use Rattle.pb_protocol_folding.specs.View.{term_of}
use Rattle.pb_protocol_meaning.specs.Steps.{data_of}
use Rattle.pb_protocol_unfolding.specs.PutIn.{TermScope}
use Rattle.pb_protocol_unfolding.specs.Unfolding.{Element, all_elements, unfolded_term}
use Rattle.pb_protocol_unfolder_steps.specs.Elements.{instance_said}
use Rattle.pb_protocol_unfolder_steps.specs.Steps.{step_assignment, protocol_assignments, changes}
use Rattle.std.proofs.Common.{inl, inr, refl, subst}
use Rattle.pb_text_tree.specs.Form.{term_form}
use Rattle.pb_protocol_tree.specs.Form.{AssignmentForm, assignment_form, step_form}
use Rattle.pb_text_tree.specs.declared.place.Place.{Place}
use Rattle.pb_protocol_unfolder_terms.specs.declared.fault.UnfoldRule.{UnfoldRule}
use Rattle.pb_protocol_unfolder_terms.specs.TermFaults.{IsFaultInTerm, surroundings_of}
use Rattle.pb_protocol_unfolder_steps.specs.StepFaults.{IsFaultInAssigned, IsFaultInStep, OnTerm, WithValues, placed_instance}
use Rattle.pb_protocol_unfolder_steps.specs.Unfolder.{form_in, protocol_in, scope_within}
use Rattle.pb_protocol_unfolder_steps.proofs.StepFaultLemmas.{term-in}
use Rattle.pb_protocol_unfolder_steps.proofs.RefusalLemmas.{refused}
use Rattle.pb_protocol_unfolder_steps.proofs.StepLemmas.{step-dropped, step-kept, step-made}
use Rattle.pb_protocol_unfolder_steps.proofs.step.unfold_in_scope.Goals as goal

pub returns-clause-step : goal.returns-clause-step
returns-clause-step c =
    let m = protocol_in c.args.unfolder.now in
    let i = instance_said c.args.instance.now in
    let g = c.in_ok-guard-2.guard in
    let bs = c.in_ok-guard-2.assignments in
    let ρ = scope_within c.args.unfolder.now c.args.scope.now in
    let es = all_elements m in
    let guard = ap term_of c.in_ok-guard-2.ensures.0 ∙ c.in_ok-guard.ensures.term ∙ ap (λ (σ : TermScope). folded (data_of m) true (unfolded_term m σ i.step.guard)) c.requires.scope in
    let assigned = (rw c.in_ok-guard-2.ensures.1 at c.unfold_all-assignments.ensures.assignments)
    ∙ ap (λ (v : List Assignment). changes m ρ (protocol_assignments v) es) c.deref.ensures.value
    ∙ ap (λ (σ : TermScope). changes m σ i.step.assignments es) c.requires.scope in
    let name : Name = record { place = c.args.place; text = c.in-Ok.head.name.text; spelled = c.in-Ok.head.name.spelled } in
    record {
      step =
          ap (λ (a : flat.Step). a ∷ []) (step-made (record { name = name; variables = c.in-Ok.head.variables; guard = g; assignments = bs }))
          ∙ step-kept m i _ _ (term_of g) (map step_assignment bs.items) c.in-Ok.ensures.name c.in-Ok.ensures.variables guard assigned
          (sym (rw (sym c.in_ok-guard-2.ensures.0) at c.is_possible.ensures) ∙ c.if-not-is_possible.false);
      at = refl;
    }

pub returns-then-not-is_possible-clause-step : goal.returns-then-not-is_possible-clause-step
returns-then-not-is_possible-clause-step c =
    let m = protocol_in c.args.unfolder.now in
    let i = instance_said c.args.instance.now in
    let guard = c.in_ok-guard.ensures.term ∙ ap (λ (σ : TermScope). folded (data_of m) true (unfolded_term m σ i.step.guard)) c.requires.scope in
    record { step = step-dropped m i (term_of c.in_ok-guard.guard) guard (sym c.is_possible.ensures ∙ c.if-not-is_possible.true); at = tt }

pub returns-in_err-guard-clause-refused : goal.returns-in_err-guard-clause-refused
returns-in_err-guard-clause-refused c =
    let a = c.args.instance.now.step.now in
    let M = surroundings_of (form_in c.args.unfolder.now) in
    let P = WithValues c.args.scope.now (IsFaultInTerm M (scope_within c.args.unfolder.now c.args.scope.now) (term_form a.guard)) in
    let Q = WithValues c.args.scope.now (IsFaultInStep (form_in c.args.unfolder.now) (placed_instance c.args.instance.now)) in
    refused c.from_residual.result c.in_err-guard.field-0.0 (OnTerm P) (OnTerm Q) c.from_residual.ensures.1
    (term-in P Q (λ r p o v. inl (subst (λ (σ : TermScope). IsFaultInTerm M σ (term_form a.guard) r p) c.requires.scope (o v)))) c.in_err-guard.ensures.refused

pub returns-in_err-guard-2-clause-refused : goal.returns-in_err-guard-2-clause-refused
returns-in_err-guard-2-clause-refused c =
    let u = c.args.unfolder.now in
    let F = form_in u in
    let IsFault : TermScope → List AssignmentForm → List Element → UnfoldRule → Place → Type 0 = IsFaultInAssigned F in
    let elements = all_elements (protocol_in u) in
    let P = WithValues c.args.scope.now (IsFault (scope_within u c.args.scope.now) (map assignment_form c.deref.result.now) elements) in
    let Q = WithValues c.args.scope.now (IsFaultInStep F (placed_instance c.args.instance.now)) in
    refused c.from_residual-in_err-guard-2.result c.in_err-guard-2.field-0.0 (OnTerm P) (OnTerm Q) c.from_residual-in_err-guard-2.ensures.1
    (term-in P Q
    (λ r p o v. inr
    (subst (λ (σ : TermScope). IsFault σ (step_form c.args.instance.now.step.now).assignments elements r p) c.requires.scope
    (subst (λ (bs : List Assignment). IsFault (scope_within u c.args.scope.now) (map assignment_form bs) elements r p) c.deref.ensures.value (o v)))))
    (rw c.in_err-guard-2.ensures at c.unfold_all-assignments.ensures.refused)
