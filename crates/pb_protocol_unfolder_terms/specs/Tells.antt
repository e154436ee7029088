-- What the fault of a term tells, where the term is met when another one is unfolded.
use Rattle.std.specs.Prelude.{◌≡◌, ◌<◌, ◌≤◌, ◌+◌, ◌⊎◌, ℕ, List, [], map, length, Contains}
use Rattle.std.specs.Prelude.{Result, IfErr, string_bytes}
use Rattle.std.specs.List.{slice_get}
use Rattle.std.specs.Prelude.{Some}
use Rattle.pb_base.specs.OrMemory.{IfFault}
use Rattle.pb_base.specs.declared.or_memory.OrMemory.{OrMemory}
use Rattle.pb_text_tree.specs.declared.place.Place.{Place}
use Rattle.pb_text_tree.specs.declared.term.Argument as declared_argument
use Rattle.pb_text_tree.specs.Form.{TermForm, argument_forms, term_form}
use Rattle.pb_text_meaning.specs.Syntax.{Name, Term}
use Rattle.pb_protocol_unfolding.specs.PutIn.{TermScope, standing}
use Rattle.pb_protocol_unfolding.specs.Unfolding.{terms_of}
use Rattle.pb_protocol_unfolder_terms.specs.declared.array.Choices as declared_choices
use Rattle.pb_protocol_unfolder_terms.specs.declared.connectives.Copies as declared_copies
use Rattle.pb_protocol_unfolder_terms.specs.declared.context.Context as declared_context
use Rattle.pb_protocol_unfolder_terms.specs.declared.context.Definition as declared_definition
use Rattle.pb_protocol_unfolder_terms.specs.declared.context.StateVariable as declared_state
use Rattle.pb_protocol_unfolder_terms.specs.declared.meant.Meant as declared_meant
use Rattle.pb_protocol_unfolder_terms.specs.declared.meant.Meant.TheVariants as meant
use Rattle.pb_protocol_unfolder_terms.specs.declared.fault.UnfoldFault.{UnfoldFault}
use Rattle.pb_protocol_unfolder_terms.specs.declared.scope.NameBinding as declared_binding
use Rattle.pb_protocol_unfolder_terms.specs.declared.scope.NameBinding.TheVariants as binding
use Rattle.pb_protocol_unfolder_terms.specs.declared.scope.TermScope as declared_scope
use Rattle.pb_protocol_unfolder_terms.specs.declared.scope.TermScope.TheVariants.{Empty, Values', Arguments'}
use Rattle.pb_protocol_unfolder_terms.specs.declared.sorts.Variable as declared_variable
use Rattle.pb_protocol_unfolder_terms.specs.Contexts.{definition_of, forms_in, spec_in, state_variable_of}
use Rattle.pb_protocol_unfolder_terms.specs.Large.{HasManyValues, IsTokenMet, IsValuesFault}
use Rattle.pb_protocol_unfolder_terms.specs.Deep.{IsDepthFault}
use Rattle.pb_protocol_unfolder_terms.specs.Met.{HaveOutside, IsIndex, IsIndexFault, IsMet, Occurrence}
use Rattle.pb_protocol_unfolder_terms.specs.Met.{Surroundings, all_index_levels, at}
use Rattle.pb_protocol_unfolder_terms.specs.Scopes.{scope_of}
use Rattle.pb_protocol_unfolder_terms.specs.TermFaults.{Breaks}
use Rattle.pb_protocol_unfolder_terms.specs.Values.{tuple_of}
use Rattle.pb_protocol_unfolder_terms.specs.View.{variable_of}

-- ---- faults

-- what a fault says of the term that is unfolded
abbrev pub IsFaultOf : Surroundings → Occurrence → OrMemory UnfoldFault → Type 0
IsFaultOf m whole error = IfFault error (λ fault. Breaks m whole fault.rule fault.place)

-- ---- as the code holds it

abbrev pub placed_term : declared_definition.Definition → TermForm
placed_term d = term_form d.term.now

abbrev pub surroundings_in : declared_context.Context → Surroundings
surroundings_in c = record {
  spec = spec_in c;
  variables = map state_variable_of c.variables.items;
  definitions = map definition_of c.definitions.items;
  terms = map placed_term c.definitions.items;
}

abbrev pub scope_said : declared_context.Context → declared_scope.TermScope → TermScope
scope_said c scope = scope_of (spec_in c) (forms_in c) scope

abbrev pub IsMetAt :
    declared_context.Context → ℕ → ℕ → TermScope → TermForm → Occurrence → Type 0
IsMetAt c l n ρ x whole = IsMet (surroundings_in c) whole (at l n ρ x)

abbrev pub IsTokenAt : declared_context.Context → Place → Occurrence → Type 0
IsTokenAt c p whole = IsTokenMet (surroundings_in c) whole p

abbrev pub AreMetAt :
    declared_context.Context → ℕ → ℕ → TermScope → List declared_argument.Argument → Occurrence →
    Type 0
AreMetAt c l n ρ arguments whole =
    (a : declared_argument.Argument) → Contains arguments a
    → IsMetAt c l n ρ (term_form a.term) whole

-- the arguments that names stand for are met, with levels of their own
abbrev pub IsScopeMet :
    declared_context.Context → declared_scope.TermScope → Occurrence → Type 0
IsScopeMet c Empty whole = Unit {0}
IsScopeMet c (Values' variables values p outer) whole = IsScopeMet c outer whole
IsScopeMet c (Arguments' parameters arguments n p user) whole =
    ((l : ℕ) × AreMetAt c l n (scope_said c user) arguments.now whole)
    × IsScopeMet c user whole

-- ---- what is met, of each part that is unfolded

abbrev pub IsTermMet :
    declared_context.Context → ℕ → ℕ → declared_scope.TermScope → TermForm → Occurrence → Type 0
IsTermMet c l n scope x whole =
    IsMetAt c l n (scope_said c scope) x whole × IsScopeMet c scope whole

abbrev pub AreArgumentsMet :
    declared_context.Context → ℕ → ℕ → declared_scope.TermScope →
    List declared_argument.Argument → Occurrence → Type 0
AreArgumentsMet c l n scope arguments whole =
    AreMetAt c l n (scope_said c scope) arguments whole × IsScopeMet c scope whole

-- an array that is used at the place: where one of the arguments is outside, or an index has too
-- many values, that is the whole's fault
pub record IsReadMet (c : declared_context.Context) (n : ℕ) (scope : declared_scope.TermScope)
    (place : Place) (arguments : List declared_argument.Argument)
    (indices : List declared_variable.Variable) (whole : Occurrence) : Type 0 where
  pub scope_met : IsScopeMet c scope whole
  pub outside : (p : Place)
      → HaveOutside (surroundings_in c) n (scope_said c scope) (argument_forms arguments)
      (map variable_of indices) p
      → IsIndexFault (surroundings_in c) whole p
  pub token : IsTokenAt c place whole
  pub values : HasManyValues (spec_in c) (map variable_of indices)
      → IsValuesFault (surroundings_in c) whole place

-- with its arguments, each at so many levels
pub record AreIndicesMet (c : declared_context.Context) (l n : ℕ) (scope : declared_scope.TermScope)
    (place : Place) (arguments : List declared_argument.Argument)
    (indices : List declared_variable.Variable) (whole : Occurrence) : Type 0 where
  pub read : IsReadMet c n scope place arguments indices whole
  pub arguments_met : AreMetAt c l n (scope_said c scope) arguments whole

-- an array that is read with so many levels left: each argument is met behind what those before it
-- take, and too few levels for all are the whole's fault
pub record IsArrayMet (c : declared_context.Context) (l n : ℕ) (scope : declared_scope.TermScope)
    (place : Place) (arguments : List declared_argument.Argument)
    (indices : List declared_variable.Variable) (whole : Occurrence) : Type 0 where
  pub read : IsReadMet c n scope place arguments indices whole
  pub index : (k d : ℕ) (y : TermForm) → l ≡ k + d
      → IsIndex (surroundings_in c) n (scope_said c scope) (argument_forms arguments)
      (map variable_of indices) d y → IsMetAt c k n (scope_said c scope) y whole
  pub deep : l < all_index_levels (surroundings_in c) n (scope_said c scope)
      (argument_forms arguments) (map variable_of indices)
      → IsDepthFault (surroundings_in c) whole place

-- a choice with so many levels left, of which each value takes one
pub record AreChoicesMet (c : declared_context.Context) (l n : ℕ)
    (scope : declared_scope.TermScope) (choices : declared_choices.Choices) (whole : Occurrence)
    : Type 0 where
  pub others : (k d : ℕ) → 0 < d → d ≤ length choices.values.now → l ≡ k + d
      → IsArrayMet c k n scope choices.others.name.now.place choices.others.arguments.now
      choices.others.indices.now whole
  pub deep : l < length choices.values.now
      → IsDepthFault (surroundings_in c) whole choices.others.name.now.place
  pub token : IsTokenAt c choices.others.name.now.place whole

-- the quantifier at the place, and the body with each of these tuples of values
abbrev pub AreCopiesMet :
    declared_context.Context → ℕ → ℕ → declared_scope.TermScope → Place →
    declared_copies.Copies → TermForm → Occurrence → Type 0
AreCopiesMet c l n scope place copies x whole =
    ((ks : List Term) → Contains (map tuple_of copies.tuples.now) ks
    → IsMetAt c l n (standing (map variable_of copies.variables.now) (terms_of ks)
    (scope_said c scope)) x whole)
    × IsScopeMet c scope whole × IsTokenAt c place whole

-- what a name is bound to
abbrev pub IsBindingMet :
    declared_context.Context → declared_binding.NameBinding → Occurrence → Type 0
IsBindingMet c (binding.Argument term n user) whole =
    ((l : ℕ) × IsMetAt c l n (scope_said c user.now) (term_form term.now) whole)
    × IsScopeMet c user.now whole
IsBindingMet c f whole = Unit {0}

-- where it is met, an error is a fault of the whole
abbrev pub Tells : {A : Type 0} →
    declared_context.Context → Result A (OrMemory UnfoldFault) → (Occurrence → Type 0) → Type 0
Tells c result Met =
    (whole : Occurrence) → Met whole → IfErr result (IsFaultOf (surroundings_in c) whole)

-- ---- what names mean

-- the indices of a state variable of this name, or none
abbrev pub AreIndices :
    declared_context.Context → Name → List declared_variable.Variable → Type 0
AreIndices c x indices =
    (indices ≡ []) ⊎ ((y : declared_state.StateVariable) × Contains c.variables.items y
    × (string_bytes y.name.now.text ≡ x) × (indices ≡ y.indices.items))

-- a definition of this name among the first n, or a state variable of this name
abbrev pub IsNamed : declared_context.Context → ℕ → Name → declared_meant.Meant → Type 0
IsNamed c n x meant.Neither = Unit {0}
IsNamed c n x (meant.Definition d k) =
    (k < n) × (slice_get c.definitions.items k ≡ Some d.now) × (d.now.name.now ≡ x)
IsNamed c n x (meant.Variable y) =
    Contains c.variables.items y.now × (string_bytes y.now.name.now.text ≡ x)
