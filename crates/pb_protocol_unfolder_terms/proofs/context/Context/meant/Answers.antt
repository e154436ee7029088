use Rattle.std.proofs.Common.{◌≡◌, ◌∙◌, ◌<◌, List, map, take, length, sym, ap, arith, min}
use Rattle.pb_text_meaning.specs.Syntax.{Terms}
use Rattle.pb_protocol_unfolding.specs.PutIn.{Forms, reads, with_definitions}
use Rattle.pb_protocol_unfolder_terms.specs.declared.context.Context.{Context}
use Rattle.pb_protocol_unfolder_terms.specs.declared.context.Definition as declared_definition
use Rattle.pb_protocol_unfolder_terms.specs.declared.context.StateVariable.{StateVariable}
use Rattle.pb_protocol_unfolder_terms.specs.Contexts.{defined_term, definition_of, definition_term, forms_in, spec_in, state_variable_of, terms_count, variable_term}
use Rattle.pb_protocol_unfolder_terms.proofs.ContextLemmas.{definition-there}
use Rattle.pb_protocol_unfolder_terms.proofs.CountLemmas.{enough}
use Rattle.pb_protocol_unfolder_terms.proofs.context.Context.meant.Goals as goal
use Rattle.pb_protocol_unfolder_terms.proofs.context.Context.meant.Goals.{After-definition_at, After-variable_at}

abbrev variables_of : Context → Forms
variables_of k = reads (spec_in k) (map state_variable_of k.variables.items)

-- by the definition that was found, or else by the state variables
definition-found : (c : After-definition_at) (ts : Terms) → terms_count ts ≡ c.args.count → forms_in c.args.self.now c.args.definitions c.args.name.now ts
    ≡ definition_term (spec_in c.args.self.now) (variables_of c.args.self.now) (map definition_of c.args.self.now.definitions.items) c.definition_at.result c.args.name.now ts
definition-found c ts e =
    let k = c.args.self.now in
    let all = c.deref.ensures.value in
    let total : c.len.result ≡ length k.definitions.items = omega (arith, c.len.ensures, k.definitions.ok.0) in
    enough (spec_in k) (variables_of k) k.definitions.items k.counts c.args.definitions c.min-among.result c.min-limit.result c.args.name.now k.counted
    (c.min-among.ensures ∙ ap (min c.args.definitions) total) (c.min-limit.ensures ∙ ap (min c.min-among.result) c.definition_count.ensures) ts
    ∙ ap (λ (ds : List declared_definition.Definition). with_definitions (spec_in k) (variables_of k) (take c.min-limit.result (map definition_of ds)) c.args.name.now ts) (sym all)
    ∙ c.definition_at.ensures.meant (spec_in k) (variables_of k) ts e
    ∙ ap (λ (ds : List declared_definition.Definition). definition_term (spec_in k) (variables_of k) (map definition_of ds) c.definition_at.result c.args.name.now ts) all

pub returns-in-Some-clause-meant : goal.returns-in-Some-clause-meant
returns-in-Some-clause-meant c = λ ts e.
    let k = c.args.self.now in
    let ds = map definition_of k.definitions.items in
    let within : c.in-Some.place < length k.definitions.items =
    omega (arith, c.in-Some.ensures.within, c.min-limit.ensures, c.min-among.ensures, c.len.ensures, k.definitions.ok.0) in
    definition-found (goal.at.returns-in-Some-clause-meant c).After-definition_at ts e
    ∙ ap (λ o. definition_term (spec_in k) (variables_of k) ds o c.args.name.now ts) c.in-Some.is
    ∙ ap (λ o. defined_term (spec_in k) (forms_in k c.in-Some.place) o ts) (definition-there k.definitions.items c.in-Some.place c.index.result.now within c.index.ensures)

-- no definition is meant
variable-found : (c : After-variable_at) (ts : Terms) → terms_count ts ≡ c.args.count
    → forms_in c.args.self.now c.args.definitions c.args.name.now ts ≡ definition_term (spec_in c.args.self.now) (variables_of c.args.self.now)
    (map definition_of c.args.self.now.definitions.items) c.definition_at.result c.args.name.now ts
    → forms_in c.args.self.now c.args.definitions c.args.name.now ts ≡ variable_term (spec_in c.args.self.now) c.variable_at.result ts
variable-found c ts e found =
    let k = c.args.self.now in
    found
    ∙ ap (λ o. definition_term (spec_in k) (variables_of k) (map definition_of k.definitions.items) o c.args.name.now ts) c.in-None.is
    ∙ ap (λ (vs : List StateVariable). reads (spec_in k) (map state_variable_of vs) c.args.name.now ts) (sym c.deref-in-None.ensures.value)
    ∙ c.variable_at.ensures.meant (spec_in k) ts e

pub returns-in-Some-variable_at-clause-meant : goal.returns-in-Some-variable_at-clause-meant
returns-in-Some-variable_at-clause-meant c = λ ts e.
    let at = goal.at.returns-in-Some-variable_at-clause-meant c in
    variable-found at.After-variable_at ts e (definition-found at.After-definition_at ts e)
    ∙ ap (λ o. variable_term (spec_in c.args.self.now) o ts) c.in-Some-variable_at.is

pub returns-in-None-variable_at-clause-meant : goal.returns-in-None-variable_at-clause-meant
returns-in-None-variable_at-clause-meant c = λ ts e.
    let at = goal.at.returns-in-None-variable_at-clause-meant c in
    variable-found at.After-variable_at ts e (definition-found at.After-definition_at ts e)
    ∙ ap (λ o. variable_term (spec_in c.args.self.now) o ts) c.in-None-variable_at.is
