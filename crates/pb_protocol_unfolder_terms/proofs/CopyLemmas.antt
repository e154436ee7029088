-- A quantifier written out: the copies of its body, one for each tuple of values.
use Rattle.std.proofs.Common.{◌≡◌, ◌<◌, ◌+◌, ℕ, suc, false, inl, List, [], drop, map, length, get_or, refl, sym, ◌∙◌, ap, subst, Vec, Global}
use Rattle.std.specs.Prelude.{Contains}
use Rattle.pb_text_tree.specs.declared.place.Place.{Place}
use Rattle.pb_text_tree.specs.Form.{TermForm, term_form, variable_forms}
use Rattle.pb_text_meaning.specs.Erase.{erased_variables, of_connective}
use Rattle.pb_text_meaning.specs.Syntax.{Spec, Term, Variable}
use Rattle.pb_protocol_folding.specs.Kept.{joining, neutral}
use Rattle.pb_protocol_folding.specs.View as tree
use Rattle.pb_protocol_unfolding.specs.PutIn.{joined, put_in, standing}
use Rattle.pb_protocol_unfolding.specs.Unfolding.{terms_of}
use Rattle.pb_protocol_unfolding.specs.Written.{written_tuples}
use Rattle.pb_protocol_unfolder_terms.specs.declared.connectives.Copies.{Copies}
use Rattle.pb_protocol_unfolder_terms.specs.declared.connectives.Quantified.{Quantified}
use Rattle.pb_protocol_unfolder_terms.specs.declared.context.Context.{Context}
use Rattle.pb_protocol_unfolder_terms.specs.declared.level.Level.{Level}
use Rattle.pb_protocol_unfolder_terms.specs.declared.scope.TermScope.{TermScope}
use Rattle.pb_protocol_unfolder_terms.specs.declared.sorts.Variable as declared_variable
use Rattle.pb_protocol_unfolder_terms.specs.declared.written.Written.{Written}
use Rattle.pb_protocol_unfolder_terms.specs.Contexts.{folding_in, forms_in, spec_in}
use Rattle.pb_protocol_unfolder_terms.specs.Copies.{copied_term, copies_by}
use Rattle.pb_protocol_unfolder_terms.specs.Forms.{is_plain}
use Rattle.pb_protocol_unfolder_terms.specs.Met.{Body, Occurrence, at}
use Rattle.pb_protocol_unfolder_terms.specs.Operands.{IsLeft}
use Rattle.pb_protocol_unfolder_terms.specs.Puts.{put}
use Rattle.pb_protocol_unfolder_terms.specs.Scopes.{scope_of}
use Rattle.pb_protocol_unfolder_terms.specs.Tells.{AreCopiesMet, IsMetAt, IsScopeMet, IsTermMet, scope_said}
use Rattle.pb_protocol_unfolder_terms.specs.Values.{tuple_of, written_term}
use Rattle.pb_protocol_unfolder_terms.specs.View.{variable_of}
use Rattle.pb_protocol_unfolder_terms.proofs.MetLemmas.{item-in, mapped-in}
use Rattle.pb_protocol_unfolder_terms.proofs.OperandLemmas.{copies-left, joined-form, joined-none}
use Rattle.pb_protocol_unfolder_terms.proofs.TermLemmas.{copies-of-tuples}

-- the body where the variables have these values
abbrev pub copy_by : Context → ℕ → TermScope → List Variable → Term → List Term → Term
copy_by k n s variables body values = put_in (spec_in k) (forms_in k n) (standing variables (terms_of values) (scope_of (spec_in k) (forms_in k) s)) body

-- the tuples that are found are those of the quantifier's variables
pub tuples-written : (k : Context) {tuples : List (List Term)} {sorts : Spec} {shown found : List declared_variable.Variable} {variables : List Variable}
    → tuples ≡ written_tuples sorts (map variable_of shown)
    → sorts ≡ spec_in k → shown ≡ found → map variable_of found ≡ variables → tuples ≡ written_tuples (spec_in k) variables
tuples-written k {shown = shown} all same shows is =
    all ∙ ap (λ S. written_tuples S (map variable_of shown)) same ∙ ap (λ ws. written_tuples (spec_in k) (map variable_of ws)) shows ∙ ap (written_tuples (spec_in k)) is

-- the copies are those of all tuples of the quantifier's values
pub record AreAllCopies (k : Context) (q : Quantified) (copies : Copies) : Type 0 where
  pub variables : map variable_of copies.variables.now ≡ erased_variables (variable_forms q.variables.now)
  pub tuples : map tuple_of copies.tuples.now ≡ written_tuples (spec_in k) (erased_variables (variable_forms q.variables.now))

-- what the quantifier says
abbrev pub quantified_by : Context → Level → TermScope → Quantified → Term
quantified_by k v s q = put k v.definitions s (Term.Quantified q.quantifier (erased_variables (variable_forms q.variables.now)) (tree.term_of q.body.now))

module _ (k : Context) (v : Level) (s : TermScope) where
  abbrev copies_of : Quantified → List Variable → List (List Term) → Term
  copies_of q variables tuples = joined q.quantifier (map (copy_by k v.definitions s variables (tree.term_of q.body.now)) tuples)

  -- what all tuples of values give
  tuples-said : (q : Quantified) {tuples : List (List Term)} → tuples ≡ written_tuples (spec_in k) (erased_variables (variable_forms q.variables.now))
      → copies_of q (erased_variables (variable_forms q.variables.now)) tuples ≡ quantified_by k v s q
  tuples-said q all =
      let variables = erased_variables (variable_forms q.variables.now) in
      ap (copies_of q variables) all
      ∙ ap (joined q.quantifier)
      (sym (copies-of-tuples (spec_in k) variables (λ σ. put_in (spec_in k) (forms_in k v.definitions) σ (tree.term_of q.body.now)) (scope_of (spec_in k) (forms_in k) s)))

  -- the copies are what the quantifier says
  pub copied-said : {q : Quantified} {copies : Copies} → AreAllCopies k q copies → copied_term k v.definitions s q.quantifier copies (tree.term_of q.body.now) ≡ quantified_by k v s q
  copied-said {q = q} {copies = copies} all = ap (λ zs. copies_of q zs (map tuple_of copies.tuples.now)) all.variables ∙ tuples-said q all.tuples

  -- without tuples it says that of none
  pub none-said : (q : Quantified) {tuples : List (Vec Written Global)} → tuples ≡ [] → map tuple_of tuples ≡ written_tuples (spec_in k) (erased_variables (variable_forms q.variables.now))
      → Term.Truth (neutral q.quantifier) ≡ quantified_by k v s q
  none-said q none all = sym (joined-none q.quantifier) ∙ ap (λ ts. copies_of q (erased_variables (variable_forms q.variables.now)) (map tuple_of ts)) (sym none) ∙ tuples-said q all

-- ---- what is left of the copies

-- what is left behind so many of them: the next one, where the variables have these values, and those behind it
abbrev pub IsCopyLeft : Context → Level → TermScope → Quantified → Copies → ℕ → Vec Written Global → List Term → ℕ → Type 0
IsCopyLeft k v s q copies i values before room =
    IsLeft (folding_in k) (joining q.quantifier) v.truth v.room (copied_term k v.definitions s q.quantifier copies (tree.term_of q.body.now))
    (Term.Binary (of_connective (joining q.quantifier)) (copy_by k v.definitions s (map variable_of copies.variables.now) (tree.term_of q.body.now) (tuple_of values))
    (joined q.quantifier (drop (i + 1) (copies_by k v.definitions s copies (tree.term_of q.body.now))))) before room

module _ (k : Context) (v : Level) (s : TermScope) (q : Quantified) (copies : Copies) where
  pub copy-left : (i : ℕ) (values : Vec Written Global) {before : List Term} {room : ℕ} → i < length copies.tuples.now → values ≡ get_or copies.tuples.now i values
      → IsLeft (folding_in k) (joining q.quantifier) v.truth v.room (copied_term k v.definitions s q.quantifier copies (tree.term_of q.body.now))
      (joined q.quantifier (drop i (copies_by k v.definitions s copies (tree.term_of q.body.now)))) before room
      → IsCopyLeft k v s q copies i values before room
  copy-left i values within is =
      copies-left q.quantifier tuple_of (copy_by k v.definitions s (map variable_of copies.variables.now) (tree.term_of q.body.now)) copies.tuples.now i values within is

  -- with a copy nothing is plain
  pub copies-form : 0 < length copies.tuples.now → is_plain (copied_term k v.definitions s q.quantifier copies (tree.term_of q.body.now)) ≡ false
  copies-form = joined-form q.quantifier tuple_of (copy_by k v.definitions s (map variable_of copies.variables.now) (tree.term_of q.body.now)) copies.tuples.now

-- ---- the copies of what is met are met

module _ (k : Context) (v : Level) (s : TermScope) where
  pub copies-met : {q : Quantified} {copies : Copies} → AreAllCopies k q copies → (whole : Occurrence)
      → IsTermMet k (suc v.depth) v.definitions s (TermForm.quantified q.quantifier q.place (variable_forms q.variables.now) (term_form q.body.now)) whole
      → AreCopiesMet k v.depth v.definitions s q.place copies (term_form q.body.now) whole
  copies-met {q = q} all whole h =
      let form = variable_forms q.variables.now in
      let x = term_form q.body.now in (
        λ ks in-it. subst (λ (zs : List Variable). IsMetAt k v.depth v.definitions (standing zs (terms_of ks) (scope_said k s)) x whole) (sym all.variables)
            (Body v.depth v.definitions (scope_said k s) q.quantifier q.place form x ks h.0 (subst (λ (kss : List (List Term)). Contains kss ks) all.tuples in-it)),
        h.1,
        (at (suc v.depth) v.definitions (scope_said k s) (TermForm.quantified q.quantifier q.place form x), h.0, inl refl),
      )

  -- the one at a place, where the variables have these values
  pub copy-met : (place : Place) (copies : Copies) (x : TermForm) (i : ℕ) (values : Vec Written Global) {shown : List Written} → i < length copies.tuples.now
      → values ≡ get_or copies.tuples.now i values
      → shown ≡ values.items → (whole : Occurrence) → AreCopiesMet k v.depth v.definitions s place copies x whole
      → IsMetAt k v.depth v.definitions (standing (map variable_of copies.variables.now) (terms_of (map written_term shown)) (scope_said k s)) x whole × IsScopeMet k s whole
  copy-met place copies x i values within is shows whole h = (
    subst (λ ws. IsMetAt k v.depth v.definitions (standing (map variable_of copies.variables.now) (terms_of (map written_term ws)) (scope_said k s)) x whole) (sym shows)
        (h.0 (tuple_of values) (mapped-in tuple_of copies.tuples.now values (item-in copies.tuples.now i values within is))),
    h.1,
  )
