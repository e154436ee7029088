-- Counting written out, in the words of the code, and what of it is met.
use Rattle.std.specs.Prelude.{◌≡◌, ℕ, List, map, Contains, Option, Some, None}
use Rattle.pb_text_tree.specs.Form.{TermForm, term_form, variable_forms}
use Rattle.pb_text_meaning.specs.Erase.{erased_term}
use Rattle.pb_text_meaning.specs.Syntax.{Spec, Variable, Term}
use Rattle.pb_protocol_folding.specs.View as tree
use Rattle.pb_protocol_unfolding.specs.PutIn.{Forms, TermScope, copies, count_of_put_in}
use Rattle.pb_protocol_unfolding.specs.PutIn.{counted, one_if, put_in, standing}
use Rattle.pb_protocol_unfolding.specs.Unfolding.{terms_of}
use Rattle.pb_protocol_unfolder_terms.specs.declared.connectives.Quantified as declared_quantified
use Rattle.pb_protocol_unfolder_terms.specs.declared.context.Context as declared_context
use Rattle.pb_protocol_unfolder_terms.specs.declared.counting.Counted as declared_counted
use Rattle.pb_protocol_unfolder_terms.specs.declared.scope.TermScope as declared_scope
use Rattle.pb_protocol_unfolder_terms.specs.Contexts.{forms_in, spec_in}
use Rattle.pb_protocol_unfolder_terms.specs.Met.{Occurrence}
use Rattle.pb_protocol_unfolder_terms.specs.Scopes.{scope_of}
use Rattle.pb_protocol_unfolder_terms.specs.Tells.{IsMetAt, IsScopeMet, IsTokenAt, scope_said}
use Rattle.pb_protocol_unfolder_terms.specs.View.{variable_of}

-- ---- terms

-- the condition, with these values for the variables
abbrev pub condition_at :
    declared_context.Context → ℕ → declared_scope.TermScope → declared_counted.Counted →
    List Term → Term
condition_at c n scope counted ks =
    put_in (spec_in c) (forms_in c n)
    (standing (map variable_of counted.variables.now) (terms_of ks)
    (scope_of (spec_in c) (forms_in c) scope))
    (tree.term_of counted.condition.now)

abbrev pub one_by :
    declared_context.Context → ℕ → declared_scope.TermScope → declared_counted.Counted →
    List Term → Term
one_by c n scope counted ks = one_if (condition_at c n scope counted ks)

abbrev pub conditions_by :
    declared_context.Context → ℕ → declared_scope.TermScope → declared_counted.Counted →
    List (List Term) → List Term
conditions_by c n scope counted tuples = map (condition_at c n scope counted) tuples

-- for how many values of these variables a term is true
abbrev pub count_by :
    declared_context.Context → ℕ → declared_scope.TermScope → List Variable → Term → Term
count_by c n scope xs x =
    counted (copies (spec_in c) xs (λ σ. put_in (spec_in c) (forms_in c n) σ x)
    (scope_of (spec_in c) (forms_in c) scope))

-- ---- what is met

-- the condition with these values
abbrev pub IsCountedMet :
    declared_context.Context → ℕ → ℕ → declared_scope.TermScope → declared_counted.Counted →
    List Term → Occurrence → Type 0
IsCountedMet c l n scope counted ks whole =
    IsMetAt c l n (standing (map variable_of counted.variables.now) (terms_of ks)
    (scope_said c scope)) (term_form counted.condition.now) whole
    × IsScopeMet c scope whole × IsTokenAt c counted.place whole

-- and with each of these tuples of values
abbrev pub AreCountedMet :
    declared_context.Context → ℕ → ℕ → declared_scope.TermScope → declared_counted.Counted →
    List (List Term) → Occurrence → Type 0
AreCountedMet c l n scope counted tuples whole =
    ((ks : List Term) → Contains tuples ks
    → IsMetAt c l n (standing (map variable_of counted.variables.now) (terms_of ks)
    (scope_said c scope)) (term_form counted.condition.now) whole)
    × IsScopeMet c scope whole × IsTokenAt c counted.place whole

-- ---- the quantifier whose body is counted

-- a term is this quantifier, or nothing is counted by it
abbrev pub IsQuantifierIn : Option declared_quantified.Quantified → TermForm → Type 0
IsQuantifierIn (Some q) x =
    x ≡ TermForm.quantified q.quantifier q.place (variable_forms q.variables.now)
    (term_form q.body.now)
IsQuantifierIn None x =
    (spec : Spec) (forms : Forms) (ρ : TermScope) →
    count_of_put_in spec forms ρ (erased_term x) ≡ Term.Number 0
