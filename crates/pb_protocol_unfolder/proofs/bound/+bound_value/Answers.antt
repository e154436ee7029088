use Rattle.std.proofs.Common.{◌∙◌, sym, ap}
use Rattle.pb_protocol_unfolding.specs.PutIn.{term_of}
use Rattle.pb_protocol_unfolder_terms.specs.Scopes.{scope_of}
use Rattle.pb_protocol_unfolder_terms.specs.Values.{written_term}
use Rattle.pb_protocol_unfolder_terms.proofs.ScopeLemmas.{values-found, fallback}
use Rattle.pb_protocol_unfolder.proofs.bound.+bound_value.Goals as goal

pub returns-in-Some : goal.returns-in-Some
returns-in-Some t c = λ sorts forms.
    ap (λ o. fallback written_term o (term_of (scope_of sorts forms c.in-Values.outer.now) c.args.name.now)) c.in-Some.ensures
    ∙ sym (values-found c.in-Values.variables.now c.in-Values.values.now (scope_of sorts forms c.in-Values.outer.now) c.args.name.now)
    ∙ ap (λ s. term_of (scope_of sorts forms s) c.args.name.now) (sym c.in-Values.is)

pub returns-in-None : goal.returns-in-None
returns-in-None t c = λ sorts forms.
    let x = c.args.name.now in
    let ρ = scope_of sorts forms c.in-Values.outer.now in
    c.bound_value.ensures sorts forms
    ∙ ap (λ o. fallback written_term o (term_of ρ x)) c.in-None.ensures
    ∙ sym (values-found c.in-Values.variables.now c.in-Values.values.now ρ x)
    ∙ ap (λ s. term_of (scope_of sorts forms s) x) (sym c.in-Values.is)
