-- A name that means a definition or a state variable: what is put in for it, and what of it is met.
use Rattle.std.proofs.Common.{◌≡◌, ◌<◌, ℕ, suc, Bool, false, if◌then◌else◌, List, [], map, length, Option, Some, None, inl, inr, refl, sym, ◌∙◌, ap, subst}
use Rattle.std.specs.Borrow.{Bor}
use Rattle.std.specs.List.{slice_get}
use Rattle.std.specs.Prelude.{Result, option_map, string_bytes}
use Rattle.std.proofs.lemmas.Option.{slice_get-map}
use Rattle.pb_base.specs.declared.or_memory.OrMemory.{OrMemory}
use Rattle.pb_text_tree.specs.declared.place.Place.{Place}
use Rattle.pb_text_tree.specs.declared.term.Argument.{Argument}
use Rattle.pb_text_tree.specs.declared.term.Term as declared_term
use Rattle.pb_text_tree.specs.Form.{Named, TermForm, argument_forms, term_form}
use Rattle.pb_text_meaning.specs.Syntax.{Name, Spec, Term, Terms}
use Rattle.pb_text_counting.specs.Counting.{is_counting}
use Rattle.pb_protocol_folding.specs.View as tree
use Rattle.pb_protocol_unfolding.specs.PutIn.{Forms, TermScope, all_put_in, applied_term, count_put_in, given_arguments, named_term, put_in, read, standing, term_of}
use Rattle.pb_protocol_unfolder_terms.specs.declared.context.Context.{Context}
use Rattle.pb_protocol_unfolder_terms.specs.declared.context.Definition.{Definition}
use Rattle.pb_protocol_unfolder_terms.specs.declared.meant.Meant.{Meant}
use Rattle.pb_protocol_unfolder_terms.specs.declared.meant.Meant.TheVariants as meant
use Rattle.pb_protocol_unfolder_terms.specs.declared.context.StateVariable.{StateVariable}
use Rattle.pb_protocol_unfolder_terms.specs.declared.fault.UnfoldFault.{UnfoldFault}
use Rattle.pb_protocol_unfolder_terms.specs.declared.level.Level.{Level}
use Rattle.pb_protocol_unfolder_terms.specs.declared.scope.TermScope as declared_scope
use Rattle.pb_protocol_unfolder_terms.specs.declared.sorts.Variable.{Variable}
use Rattle.pb_protocol_unfolder_terms.specs.declared.unfolded.Unfolded.{Unfolded}
use Rattle.pb_protocol_unfolder_terms.specs.Contexts.{definition_of, folding_in, forms_in, meant_term, spec_in, state_variable_of, terms_count}
use Rattle.pb_protocol_unfolder_terms.specs.Large.{HasManyValues}
use Rattle.pb_protocol_unfolder_terms.specs.Met.{Defined, Given, HaveOutside, Index, IsIndex, Occurrence, all_index_levels, arguments_put_in, at, name_used}
use Rattle.pb_protocol_unfolder_terms.specs.Puts.{put}
use Rattle.pb_protocol_unfolder_terms.specs.Scopes.{scope_of}
use Rattle.pb_protocol_unfolder_terms.specs.Tells.{AreMetAt, IsArrayMet, IsMetAt, IsNamed, IsScopeMet, IsTermMet, placed_term, scope_said, surroundings_in}
use Rattle.pb_protocol_unfolder_terms.specs.Unfolding.{Unfolds}
use Rattle.pb_protocol_unfolder_terms.specs.View.{variable_of}
use Rattle.pb_protocol_unfolder_terms.proofs.ContextLemmas.{arguments-counted, given-there}
use Rattle.pb_protocol_unfolder_terms.proofs.GivenLemmas.{given_by}
use Rattle.pb_protocol_unfolder_terms.proofs.MetLemmas.{arguments-met, mapped-in}
use Rattle.pb_protocol_unfolder_terms.proofs.UnfoldLemmas.{standing-none}

-- a name that doesn't count is applied
pub applied-said : (S : Spec) (forms : Forms) (ρ : TermScope) (f : Name) (xs : Terms) → is_counting f ≡ false
    → applied_term (given_arguments forms f (all_put_in S forms ρ xs)) f (all_put_in S forms ρ xs) ≡ put_in S forms ρ (Term.Apply f xs)
applied-said S forms ρ f xs other =
    ap (λ (b : Bool). if b then count_put_in S forms ρ xs else applied_term (given_arguments forms f (all_put_in S forms ρ xs)) f (all_put_in S forms ρ xs)) (sym other)

-- without arguments it is a function of data
pub bare-applied : (S : Spec) (forms : Forms) (ρ : TermScope) (f : Name) (given : List Argument) → is_counting f ≡ false → given ≡ []
    → Term.Apply f (all_put_in S forms ρ (tree.terms_of given)) ≡ put_in S forms ρ (Term.Apply f (tree.terms_of given))
bare-applied S forms ρ f given other none =
    ap (λ (ds : List Argument). Term.Apply f (all_put_in S forms ρ (tree.terms_of ds))) none
    ∙ applied-said S forms ρ f Terms.NoTerms other ∙ ap (λ (ds : List Argument). put_in S forms ρ (Term.Apply f (tree.terms_of ds))) (sym none)

-- a name with arguments is what it means
pub meant-unfolded : (k : Context) (v : Level) (s : declared_scope.TermScope) (f : Name) (given : List Argument) (m : Meant) (r : Result Unfolded (OrMemory UnfoldFault)) {shown : Name}
    → is_counting f ≡ false → 0 < length given → shown ≡ f → ((ts : Terms) → terms_count ts ≡ length given → forms_in k v.definitions shown ts ≡ meant_term k m ts)
    → Unfolds (folding_in k) v.truth v.room (applied_term (meant_term k m (given_by k v s given)) f (given_by k v s given)) r
    → Unfolds (folding_in k) v.truth v.room (put k v.definitions s (Term.Apply f (tree.terms_of given))) r
meant-unfolded k v s f given m r other some shows meant h =
    let ρ = scope_of (spec_in k) (forms_in k) s in
    subst (λ (z : Term). Unfolds (folding_in k) v.truth v.room z r) (applied-said (spec_in k) (forms_in k v.definitions) ρ f (tree.terms_of given) other)
    (subst (λ (o : Option Term). Unfolds (folding_in k) v.truth v.room (applied_term o f (given_by k v s given)) r)
    (sym (meant (given_by k v s given) (arguments-counted (spec_in k) (forms_in k v.definitions) ρ given))
    ∙ ap (λ (x : Name). forms_in k v.definitions x (given_by k v s given)) shows ∙ given-there (spec_in k) (forms_in k v.definitions) ρ f given some) h)

-- a definition, with the arguments for its parameters
pub definition-unfolded : (k : Context) (v : Level) (s : declared_scope.TermScope) (f : Name) (given : List Argument) (d : Bor Definition) (before : ℕ) (r : Result Unfolded (OrMemory UnfoldFault))
    {shown : Name} {vs : List Variable} → is_counting f ≡ false → 0 < length given → shown ≡ f
    → ((ts : Terms) → terms_count ts ≡ length given → forms_in k v.definitions shown ts ≡ meant_term k (meant.Definition d before) ts) → vs ≡ d.now.parameters.items
    → Unfolds (folding_in k) v.truth v.room (put_in (spec_in k) (forms_in k before) (standing (map variable_of vs) (given_by k v s given) []) (tree.term_of d.now.term.now)) r
    → Unfolds (folding_in k) v.truth v.room (put k v.definitions s (Term.Apply f (tree.terms_of given))) r
definition-unfolded k v s f given d before r other some shows means parameters h =
    meant-unfolded k v s f given (meant.Definition d before) r other some shows means
    (subst (λ (vs : List Variable). Unfolds (folding_in k) v.truth v.room
    (put_in (spec_in k) (forms_in k before) (standing (map variable_of vs) (given_by k v s given) []) (tree.term_of d.now.term.now)) r) parameters h)

-- one without arguments
pub bare-definition-unfolded : (k : Context) (v : Level) (d : Bor Definition) (before : ℕ) (r : Result Unfolded (OrMemory UnfoldFault)) {shown x : Name} → shown ≡ x
    → forms_in k v.definitions shown Terms.NoTerms ≡ meant_term k (meant.Definition d before) Terms.NoTerms
    → Unfolds (folding_in k) v.truth v.room (put_in (spec_in k) (forms_in k before) [] (tree.term_of d.now.term.now)) r
    → Unfolds (folding_in k) v.truth v.room (named_term (spec_in k) None (forms_in k v.definitions x Terms.NoTerms) x) r
bare-definition-unfolded k v d before r {x = x} shows means =
    subst (λ (o : Option Term). Unfolds (folding_in k) v.truth v.room (named_term (spec_in k) None o x) r)
    (ap (λ (ρ : TermScope). Some (put_in (spec_in k) (forms_in k before) ρ (tree.term_of d.now.term.now))) (sym (standing-none (map variable_of d.now.parameters.items) []))
    ∙ sym means ∙ ap (λ (y : Name). forms_in k v.definitions y Terms.NoTerms) shows)

-- a state variable, with the arguments for its indices
pub variable-unfolded : (k : Context) (v : Level) (s : declared_scope.TermScope) (f : Name) (given : List Argument) (y : Bor StateVariable) (r : Result Unfolded (OrMemory UnfoldFault))
    {shown text : Name} {is : List Variable} → is_counting f ≡ false → 0 < length given → shown ≡ f
    → ((ts : Terms) → terms_count ts ≡ length given → forms_in k v.definitions shown ts ≡ meant_term k (meant.Variable y) ts) → text ≡ string_bytes y.now.name.now.text → is ≡ y.now.indices.items
    → Unfolds (folding_in k) v.truth v.room (read (spec_in k) text (map variable_of is) (given_by k v s given)) r
    → Unfolds (folding_in k) v.truth v.room (put k v.definitions s (Term.Apply f (tree.terms_of given))) r
variable-unfolded k v s f given y r {text = text} other some shows means named indices h =
    meant-unfolded k v s f given (meant.Variable y) r other some shows means
    (subst (λ (x : Name). Unfolds (folding_in k) v.truth v.room (read (spec_in k) x (map variable_of y.now.indices.items) (given_by k v s given)) r) named
    (subst (λ (js : List Variable). Unfolds (folding_in k) v.truth v.room (read (spec_in k) text (map variable_of js) (given_by k v s given)) r) indices h))

-- the term of a definition that is used is met
pub definition-met : (k : Context) (l n : ℕ) (ρ : TermScope) (x : TermForm) (d : Definition) (m : ℕ) {shown : Name} → m < n → slice_get k.definitions.items m ≡ Some d → d.name.now ≡ shown
    → name_used x ≡ Some shown → (whole : Occurrence) → IsMetAt k (suc l) n ρ x whole
    → IsMetAt k l m (standing (map variable_of d.parameters.items) (arguments_put_in (surroundings_in k) n ρ x) []) (placed_term d) whole
definition-met k l n ρ x d m within there named used whole h =
    Defined l n ρ x m (definition_of d) (placed_term d) h (used ∙ ap Some (sym named)) within (slice_get-map definition_of k.definitions.items m ∙ ap (option_map definition_of) there)
    (slice_get-map placed_term k.definitions.items m ∙ ap (option_map placed_term) there)

-- without arguments
pub bare-definition-met : (k : Context) (v : Level) (ρ : TermScope) (x : Named) (d : Bor Definition) (m : ℕ) {shown : Name} → shown ≡ x.text → IsNamed k v.definitions shown (meant.Definition d m)
    → (whole : Occurrence) → IsMetAt k (suc v.depth) v.definitions ρ (TermForm.name x) whole → IsMetAt k v.depth m [] (placed_term d.now) whole
bare-definition-met k v ρ x d m shows is whole h =
    subst (λ (σ : TermScope). IsMetAt k v.depth m σ (placed_term d.now) whole) (standing-none (map variable_of d.now.parameters.items) [])
    (definition-met k v.depth v.definitions ρ (TermForm.name x) d.now m is.0 is.1 (is.2 ∙ shows) refl whole h)

-- with arguments, which are met too
pub applied-definition-met : (k : Context) (v : Level) (s : declared_scope.TermScope) (f : Named) (given : List Argument) (d : Bor Definition) (m : ℕ) {shown : Name} {vs : List Variable}
    → shown ≡ f.text → IsNamed k v.definitions shown (meant.Definition d m) → vs ≡ d.now.parameters.items
    → (whole : Occurrence) → IsTermMet k (suc v.depth) v.definitions s (TermForm.application f (argument_forms given)) whole
    → IsMetAt k v.depth m (standing (map variable_of vs) (given_by k v s given) []) (placed_term d.now) whole
    × (((l : ℕ) × AreMetAt k l v.definitions (scope_said k s) given whole) × IsScopeMet k s whole)
applied-definition-met k v s f given d m shows is parameters whole h = (
  subst (λ (vs : List Variable). IsMetAt k v.depth m (standing (map variable_of vs) (given_by k v s given) []) (placed_term d.now) whole) (sym parameters)
      (definition-met k v.depth v.definitions (scope_said k s) (TermForm.application f (argument_forms given)) d.now m is.0 is.1 (is.2 ∙ shows) refl whole h.0),
  ((v.depth, arguments-met k v.depth v.definitions (scope_said k s) whole f given h.0), h.1),
)

-- a state variable whose element is read: the array and its indices
pub applied-variable-met : (k : Context) (v : Level) (s : declared_scope.TermScope) (f : Named) (given : List Argument) (y : Bor StateVariable) {shown : Name} {place : Place} {is : List Variable}
    → shown ≡ f.text → IsNamed k v.definitions shown (meant.Variable y) → place ≡ f.place → is ≡ y.now.indices.items
    → (whole : Occurrence) → IsTermMet k (suc v.depth) v.definitions s (TermForm.application f (argument_forms given)) whole → IsArrayMet k v.depth v.definitions s place given is whole
applied-variable-met k v s f given y {place = place} shows is at-name indices whole h =
    let n = v.definitions in
    let l = v.depth in
    let σ = scope_said k s in
    let x = TermForm.application f (argument_forms given) in
    let name : string_bytes y.now.name.now.text ≡ f.text = is.1 ∙ shows in
    let there = mapped-in state_variable_of k.variables.items y.now is.0 in
    record {
      read = record {
        scope_met = h.1;
        outside = λ p o. (
          at (suc l) n σ x,
          h.0,
          (
            state_variable_of y.now,
            there,
            name,
            subst (λ (vs : List Variable). HaveOutside (surroundings_in k) n σ (argument_forms given) (map variable_of vs) p) indices o,
          ),
        );
        token = (at (suc l) n σ x, h.0, inl at-name);
        values = λ many. (
          at (suc l) n σ x,
          h.0,
          (at-name, state_variable_of y.now, there, name, subst (λ (vs : List Variable). HasManyValues (spec_in k) (map variable_of vs)) indices many),
        );
      };
      index = λ j d z same o. Index j d n σ f (argument_forms given) (state_variable_of y.now) z
          (subst (λ (i : ℕ). IsMetAt k (suc i) n σ x whole) same h.0) there name
          (subst (λ (vs : List Variable). IsIndex (surroundings_in k) n σ (argument_forms given) (map variable_of vs) d z) indices o);
      deep = λ less. inl (
        at (suc l) n σ x,
        h.0,
        inr (
          state_variable_of y.now,
          there,
          name,
          subst (λ (vs : List Variable). l < all_index_levels (surroundings_in k) n σ (argument_forms given) (map variable_of vs)) indices less,
        ),
        at-name,
      );
    }

-- what a name stands for is met where the name is
pub argument-term-met : (k : Context) (v : Level) (s : declared_scope.TermScope) (x : Named) (t : declared_term.Term) (n : ℕ) (user : declared_scope.TermScope) {shown : Name} → shown ≡ x.text
    → Some (put k n user (tree.term_of t)) ≡ term_of (scope_said k s) shown → (whole : Occurrence) → IsTermMet k (suc v.depth) v.definitions s (TermForm.name x) whole
    → ((l : ℕ) × IsMetAt k l n (scope_said k user) (term_form t) whole) × IsScopeMet k user whole → IsTermMet k v.depth n user (term_form t) whole
argument-term-met k v s x t n user shows found whole h met = (
  Given v.depth v.definitions (scope_said k s) x met.0.0 n (scope_said k user) (term_form t) h.0 met.0.1 (sym (found ∙ ap (λ (y : Name). term_of (scope_said k s) y) shows)),
  met.1,
)
