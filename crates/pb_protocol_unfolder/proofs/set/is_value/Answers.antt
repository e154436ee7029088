use Rattle.std.proofs.Common.{inl, inr, sym, subst, [], ◌∷◌}
use Rattle.pb_protocol_folding.specs.View.{term_of}
use Rattle.pb_protocol_tree.specs.declared.step_set.StepValue.{StepValue}
use Rattle.pb_protocol_tree.specs.Form.{step_value_form}
use Rattle.pb_protocol_unfolder_terms.specs.Values.{written_term}
use Rattle.pb_protocol_unfolder_steps.specs.Unfolder.{protocol_in, scope_within}
use Rattle.pb_protocol_unfolder.specs.Faults.{HasNoValue, IsFaultOfValue, meant}
use Rattle.pb_protocol_unfolder.specs.Parts.{IsAt}
use Rattle.pb_protocol_unfolder.proofs.FaultLemmas.{first-in, part}
use Rattle.pb_protocol_unfolder.proofs.set.is_value.Goals as goal

pub returns-in_err-value-in-Value-clause-refused : goal.returns-in_err-value-in-Value-clause-refused
returns-in_err-value-in-Value-clause-refused c =
    let ρ = scope_within c.args.unfolder.now c.args.scope.now.names in
    let a = c.in-Value.argument in
    part c.from_residual.result c.in_err-value-in-Value.field-0.0
    (IsAt a.place (HasNoValue (protocol_in c.args.unfolder.now) (meant (protocol_in c.args.unfolder.now) ρ (term_of a.term))))
    (IsFaultOfValue (protocol_in c.args.unfolder.now) ρ ((written_term c.args.own) ∷ []) (step_value_form c.args.named.now)) c.from_residual.ensures.1
    (λ p at. subst (λ (v : StepValue). IsFaultOfValue (protocol_in c.args.unfolder.now) ρ ((written_term c.args.own) ∷ []) (step_value_form v) p) (sym c.in-Value.is) (at.0, inl at.1))
    c.in_err-value-in-Value.ensures.refused

pub returns-in_err-own-in-Value-clause-refused : goal.returns-in_err-own-in-Value-clause-refused
returns-in_err-own-in-Value-clause-refused c =
    let m = protocol_in c.args.unfolder.now in
    let k = written_term c.args.own in
    part c.from_residual-in_err-own-in-Value.result c.in_err-own-in-Value.field-0.0 (IsAt c.in-Value.argument.place (HasNoValue m k))
    (IsFaultOfValue m (scope_within c.args.unfolder.now c.args.scope.now.names) (k ∷ []) (step_value_form c.args.named.now)) c.from_residual-in_err-own-in-Value.ensures.1
    (λ p at. subst (λ (v : StepValue). IsFaultOfValue m (scope_within c.args.unfolder.now c.args.scope.now.names) (k ∷ []) (step_value_form v) p) (sym c.in-Value.is)
    (at.0, inr (k, first-in k [], at.1)))
    c.in_err-own-in-Value.ensures.refused
