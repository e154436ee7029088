use Rattle.std.proofs.Common.{◌≡◌, ◌∙◌, ℕ, Option, sym, ap, subst, None}
use Rattle.pb_text_meaning.specs.Syntax.{Spec}
use Rattle.pb_text_tree.specs.declared.term.Argument.{Argument}
use Rattle.pb_protocol_unfolding.specs.PutIn.{Forms, term_of}
use Rattle.pb_protocol_unfolder_terms.specs.declared.written.Written.{Written}
use Rattle.pb_protocol_unfolder_terms.specs.Scopes.{looked, scope_of}
use Rattle.pb_protocol_unfolder_terms.specs.Values.{written_term}
use Rattle.pb_protocol_unfolder_terms.specs.Tells.{AreMetAt, IsScopeMet, scope_said}
use Rattle.pb_protocol_unfolder_terms.proofs.MetLemmas.{found-in}
use Rattle.pb_protocol_unfolder_terms.proofs.ScopeLemmas.{values-found, arguments-found, fallback, put_argument}
use Rattle.pb_protocol_unfolder_terms.proofs.scope.+looked_up.Goals as goal
use Rattle.pb_protocol_unfolder_terms.proofs.scope.+looked_up.Goals.{In-Values, In-Arguments}

-- by values, else by what is around
by-values : (t : ℕ) (c : In-Values t) (sorts : Spec) (forms : ℕ → Forms) {found : Option Written} → found ≡ looked c.in-Values.variables.now c.in-Values.values.now c.args.name.now None
    → fallback written_term found (term_of (scope_of sorts forms c.in-Values.outer.now) c.args.name.now) ≡ term_of (scope_of sorts forms c.args.scope.now) c.args.name.now
by-values t c sorts forms is =
    let ρ = scope_of sorts forms c.in-Values.outer.now in
    ap (λ o. fallback written_term o (term_of ρ c.args.name.now)) is
    ∙ sym (values-found c.in-Values.variables.now c.in-Values.values.now ρ c.args.name.now)
    ∙ ap (λ s. term_of (scope_of sorts forms s) c.args.name.now) (sym c.in-Values.is)

-- by arguments alone
by-arguments : (t : ℕ) (c : In-Arguments t) (sorts : Spec) (forms : ℕ → Forms) {found : Option Argument}
    → found ≡ looked c.in-Arguments.parameters.now c.in-Arguments.arguments.now c.args.name.now None
    → fallback (put_argument sorts (forms c.in-Arguments.definitions) (scope_of sorts forms c.in-Arguments.user.now)) found None ≡ term_of (scope_of sorts forms c.args.scope.now) c.args.name.now
by-arguments t c sorts forms is =
    let ρ = scope_of sorts forms c.in-Arguments.user.now in
    ap (λ o. fallback (put_argument sorts (forms c.in-Arguments.definitions) ρ) o None) is
    ∙ sym (arguments-found sorts (forms c.in-Arguments.definitions) ρ c.in-Arguments.parameters.now c.in-Arguments.arguments.now c.args.name.now)
    ∙ ap (λ s. term_of (scope_of sorts forms s) c.args.name.now) (sym c.in-Arguments.is)

pub returns-in-Some-clause-term : goal.returns-in-Some-clause-term
returns-in-Some-clause-term t c = λ sorts forms. by-values t (goal.at.returns-in-Some-clause-term t c).In-Values sorts forms c.in-Some.ensures

pub returns-in-None-clause-term : goal.returns-in-None-clause-term
returns-in-None-clause-term t c = λ sorts forms.
    c.looked_up.ensures.term sorts forms ∙ by-values t (goal.at.returns-in-None-clause-term t c).In-Values sorts forms c.in-None.ensures

pub returns-in-Some-argument_of-clause-term : goal.returns-in-Some-argument_of-clause-term
returns-in-Some-argument_of-clause-term t c = λ sorts forms.
    by-arguments t (goal.at.returns-in-Some-argument_of-clause-term t c).In-Arguments sorts forms c.in-Some-argument_of.ensures

pub returns-in-None-argument_of-clause-term : goal.returns-in-None-argument_of-clause-term
returns-in-None-argument_of-clause-term t c = λ sorts forms.
    by-arguments t (goal.at.returns-in-None-argument_of-clause-term t c).In-Arguments sorts forms c.in-None-argument_of.ensures

pub returns-in-Some-argument_of-clause-met : goal.returns-in-Some-argument_of-clause-met
returns-in-Some-argument_of-clause-met t c = λ k whole h.
    let a = c.in-Some-argument_of.argument.now in
    let s : ((l : ℕ) × AreMetAt k l c.in-Arguments.definitions (scope_said k c.in-Arguments.user.now) c.in-Arguments.arguments.now whole) × IsScopeMet k c.in-Arguments.user.now whole =
    subst (λ s. IsScopeMet k s whole) c.in-Arguments.is h in
    ((s.0.0, s.0.1 a (found-in c.args.name.now c.in-Arguments.parameters.now c.in-Arguments.arguments.now a c.in-Some-argument_of.ensures)), s.1)
