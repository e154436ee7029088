-- Counting written out, tuple by tuple: the sum over the tuples of values before one is unfolded.
use Rattle.std.proofs.Common.{◌≡◌, ◌<◌, ◌≤◌, ◌+◌, ℕ, zero, suc, add-one, Bool, true, false, List, [], ◌∷◌, ◌++◌, map, take, length, get_or, Some, None, inl, refl, sym, ◌∙◌, ap, subst, arith, Vec, Global}
use Rattle.std.specs.List.{slice_get}
use Rattle.std.specs.Prelude.{Contains, IsErrAnd, Result, codes}
use Rattle.pb_base.specs.declared.or_memory.OrMemory.{OrMemory}
use Rattle.pb_base.specs.declared.or_memory.OrMemory.TheVariants.{Refused}
use Rattle.pb_text_tree.specs.declared.operator.Arithmetic.TheVariants.{Plus}
use Rattle.pb_text_tree.specs.declared.place.Place.{Place}
use Rattle.pb_text_tree.specs.declared.sort.SortDeclaration.{SortDeclaration}
use Rattle.pb_text_tree.specs.declared.term.Argument.{Argument}
use Rattle.pb_text_tree.specs.declared.term.Term as declared_term
use Rattle.pb_text_tree.specs.Form.{TermForm, argument_forms, term_form, variable_forms}
use Rattle.pb_text_meaning.specs.Erase.{erased_term, erased_variables}
use Rattle.pb_text_meaning.specs.Syntax.{Operator, Spec, Term, Variable}
use Rattle.pb_text_counting.specs.Counting.{counting}
use Rattle.pb_protocol_folding.specs.View as tree
use Rattle.pb_protocol_unfolding.specs.PutIn.{Forms, TermScope, added, count_of_put_in, counted, one_if, put_in, standing}
use Rattle.pb_protocol_unfolding.specs.Unfolding.{terms_of}
use Rattle.pb_protocol_unfolding.specs.Written.{written_tuples}
use Rattle.pb_protocol_unfolder_terms.specs.declared.connectives.Quantified.{Quantified}
use Rattle.pb_protocol_unfolder_terms.specs.declared.context.Context.{Context}
use Rattle.pb_protocol_unfolder_terms.specs.declared.counting.Counted.{Counted}
use Rattle.pb_protocol_unfolder_terms.specs.declared.fault.UnfoldFault.{UnfoldFault}
use Rattle.pb_protocol_unfolder_terms.specs.declared.fault.UnfoldRule.TheVariants as rule
use Rattle.pb_protocol_unfolder_terms.specs.declared.level.Level.{Level}
use Rattle.pb_protocol_unfolder_terms.specs.declared.scope.TermScope as declared_scope
use Rattle.pb_protocol_unfolder_terms.specs.declared.unfolded.Unfolded.{Unfolded}
use Rattle.pb_protocol_unfolder_terms.specs.declared.written.Written.{Written}
use Rattle.pb_protocol_unfolder_terms.specs.Contexts.{folding_in, forms_in, spec_in}
use Rattle.pb_protocol_unfolder_terms.specs.Counted.{AreCountedMet, IsCountedMet, IsQuantifierIn, condition_at, conditions_by, count_by, one_by}
use Rattle.pb_protocol_unfolder_terms.specs.Deep.{IsDepthFault, told_at}
use Rattle.pb_protocol_unfolder_terms.specs.Met.{Body, Occurrence, at}
use Rattle.pb_protocol_unfolder_terms.specs.Puts.{put}
use Rattle.pb_protocol_unfolder_terms.specs.Scopes.{scope_of}
use Rattle.pb_protocol_unfolder_terms.specs.Tells.{IsMetAt, IsTermMet, scope_said, surroundings_in}
use Rattle.pb_protocol_unfolder_terms.specs.Unfolding.{IsRefusal, IsUnfolded, Unfolds, operator_count}
use Rattle.pb_protocol_unfolder_terms.specs.Values.{tuple_of}
use Rattle.pb_protocol_unfolder_terms.specs.View.{variable_of}
use Rattle.pb_protocol_unfolder_terms.proofs.ArgumentLemmas.{taken-all, taken-more, taken-none}
use Rattle.pb_protocol_unfolder_terms.proofs.CalculationLemmas.{IsCalculation}
use Rattle.pb_protocol_unfolder_terms.proofs.ChainLemmas.{err-kept, no-room, refusal-weaker}
use Rattle.pb_protocol_unfolder_terms.proofs.ChoiceLemmas.{condition-refused}
use Rattle.pb_protocol_unfolder_terms.proofs.MetLemmas.{argument-part-met, item-in, mapped-in}
use Rattle.pb_protocol_unfolder_terms.proofs.ReadLemmas.{none-not, not-none, some-is}
use Rattle.pb_protocol_unfolder_terms.proofs.TermLemmas.{copies-of-tuples}

-- ---- one condition

-- there is no room for a choice
pub one-without-room : {room : ℕ} {p : Place} (k : Context) (t : Term) (r : Result Unfolded (OrMemory UnfoldFault)) (e : OrMemory UnfoldFault) → IsErrAnd r (λ d. d ≡ e)
    → e ≡ Refused (record { rule = rule.Operators; place = p }) → room ≡ 0 → (truth : Bool) → Unfolds (folding_in k) truth room (one_if t) r
one-without-room {room = room} {p = p} k t r e same refused none truth =
    err-kept r e (IsUnfolded (folding_in k) truth room (one_if t)) (IsRefusal room (one_if t)) same (no-room room (one_if t) e p refused (omega (arith, none)))

-- or for its condition
pub one-refused : {room inner : ℕ} (k : Context) (t : Term) (r : Result Unfolded (OrMemory UnfoldFault)) (e : OrMemory UnfoldFault) → IsErrAnd r (λ d. d ≡ e)
    → room ≡ suc inner → IsRefusal inner t e → (truth : Bool) → Unfolds (folding_in k) truth room (one_if t) r
one-refused {room = room} {inner = inner} k t r e same one h truth =
    err-kept r e (IsUnfolded (folding_in k) truth room (one_if t)) (IsRefusal room (one_if t)) same
    (condition-refused room inner (codes "if") t (Term.Number 1) (Term.Number 0) e one h)

-- 1 where an unfolded condition is true, else 0
abbrev pub IsOneIf : List SortDeclaration → Unfolded → Unfolded → Type 0
IsOneIf D u r = (n : ℕ) (t : Term) (truth : Bool) → IsUnfolded (tree.spec_of D) true n t u → IsUnfolded (tree.spec_of D) truth (suc n) (one_if t) r

pub one-unfolded : {room inner : ℕ} {t : Term} {D : List SortDeclaration} {u r : Unfolded} (k : Context) → D ≡ k.declarations.now → room ≡ suc inner
    → IsUnfolded (folding_in k) true inner t u → IsOneIf D u r → (truth : Bool) → IsUnfolded (folding_in k) truth room (one_if t) r
one-unfolded {inner = inner} {t = t} {u = u} {r = r} k sorts one h is truth =
    subst (λ (n : ℕ). IsUnfolded (folding_in k) truth n (one_if t) r) (sym one) (subst (λ (ds : List SortDeclaration). IsOneIf ds u r) sorts is inner t truth h)

-- ---- sums of conditions

-- the tuple at a place
pub tuple-there : (ts : List (Vec Written Global)) (i : ℕ) (t : Vec Written Global) → i < length ts → get_or ts i t ≡ get_or ts i (get_or ts i t)
tuple-there [] i t within = absurd (omega (arith, within))
tuple-there (u ∷ ts) zero t within = refl
tuple-there (u ∷ ts) (suc i) t within = tuple-there ts i t (omega (arith, within))

added-last : (x : Term) (ts : List Term) (t : Term) → added x (ts ++ t ∷ []) ≡ Term.Binary Operator.Plus (added x ts) (one_if t)
added-last x [] t = refl
added-last x (u ∷ ts) t = added-last (Term.Binary Operator.Plus x (one_if u)) ts t

added-within : (x : Term) (ts : List Term) → operator_count x ≤ operator_count (added x ts)
added-within x [] = omega arith
added-within x (t ∷ ts) = let rest = added-within (Term.Binary Operator.Plus x (one_if t)) ts in omega (arith, rest)

module _ (k : Context) (v : Level) (s : declared_scope.TermScope) (c : Counted) where
  abbrev pub one : List Term → Term
  one ks = one_by k v.definitions s c ks

  abbrev conditions : List (Vec Written Global) → List Term
  conditions ts = conditions_by k v.definitions s c (map tuple_of ts)

  abbrev pub summed : List (Vec Written Global) → Term
  summed ts = counted (conditions ts)

  conditions-last : (ts : List (Vec Written Global)) (t : Vec Written Global)
      → conditions (ts ++ t ∷ []) ≡ conditions ts ++ condition_at k v.definitions s c (tuple_of t) ∷ []
  conditions-last [] t = refl
  conditions-last (u ∷ ts) t = ap (λ (xs : List Term). condition_at k v.definitions s c (tuple_of u) ∷ xs) (conditions-last ts t)

  sum-last : (ts : List (Vec Written Global)) (t : Vec Written Global) → 0 < length ts → Term.Binary Operator.Plus (summed ts) (one (tuple_of t)) ≡ summed (ts ++ t ∷ [])
  sum-last [] t some = absurd (omega (arith, some))
  sum-last (u ∷ ts) t some = sym (added-last (one (tuple_of u)) (conditions ts) (condition_at k v.definitions s c (tuple_of t))) ∙ ap (added (one (tuple_of u))) (sym (conditions-last ts t))

  sum-next : (ts : List (Vec Written Global)) (i : ℕ) (t : Vec Written Global) → 0 < i → i < length ts → t ≡ get_or ts i t
      → Term.Binary Operator.Plus (summed (take i ts)) (one (tuple_of t)) ≡ summed (take (suc i) ts)
  sum-next [] i t some within is = absurd (omega (arith, within))
  sum-next (u ∷ ts) zero t some within is = absurd (omega (arith, some))
  sum-next (u ∷ ts) (suc j) t some within is = sum-last (u ∷ take j ts) t (omega arith) ∙ ap summed (sym (taken-more (u ∷ ts) (suc j) t within is))

  sum-first : (ts : List (Vec Written Global)) (t : Vec Written Global) → 0 < length ts → t ≡ get_or ts 0 t → one (tuple_of t) ≡ summed (take 1 ts)
  sum-first [] t some is = absurd (omega (arith, some))
  sum-first (u ∷ ts) t some is = ap (λ (w : Vec Written Global). one (tuple_of w)) is ∙ ap (λ (ws : List (Vec Written Global)). summed (u ∷ ws)) (sym (taken-none ts))

  -- the first of them have no more operators
  added-first : (x : Term) (ts : List (Vec Written Global)) (i : ℕ) → operator_count (added x (conditions (take i ts))) ≤ operator_count (added x (conditions ts))
  added-first x [] zero = omega arith
  added-first x [] (suc i) = omega arith
  added-first x (t ∷ ts) zero = added-within x (conditions (t ∷ ts))
  added-first x (t ∷ ts) (suc i) = added-first (Term.Binary Operator.Plus x (one (tuple_of t))) ts i

  sum-within : (ts : List (Vec Written Global)) (i : ℕ) → operator_count (summed (take i ts)) ≤ operator_count (summed ts)
  sum-within [] zero = omega arith
  sum-within [] (suc i) = omega arith
  sum-within (t ∷ ts) zero = omega arith
  sum-within (t ∷ ts) (suc i) = added-first (one (tuple_of t)) ts i

  next-within : (ts : List (Vec Written Global)) (i : ℕ) (t : Vec Written Global) → 0 < i → i < length ts → t ≡ get_or ts i t
      → suc (operator_count (summed (take i ts)) + operator_count (one (tuple_of t))) ≤ operator_count (summed ts)
  next-within ts i t some within is =
      let next = ap operator_count (sum-next ts i t some within is) in let all = sum-within ts (suc i) in omega (arith, next, all)

  -- u is the sum over the first i tuples
  abbrev pub IsSummedTo : List (Vec Written Global) → ℕ → Unfolded → Type 0
  IsSummedTo ts i u = (truth : Bool) → IsUnfolded (folding_in k) truth v.room (summed (take i ts)) u

  module _ (ts : List (Vec Written Global)) where
    -- the first tuple alone
    pub first-summed : (t : Vec Written Global) {u : Unfolded} → 0 < length ts → t ≡ get_or ts 0 t
        → ((truth : Bool) → IsUnfolded (folding_in k) truth v.room (one (tuple_of t)) u) → IsSummedTo ts 1 u
    first-summed t {u = u} some is h truth = subst (λ (z : Term). IsUnfolded (folding_in k) truth v.room z u) (sum-first ts t some is) (h truth)

    pub first-one-refused : (t : Vec Written Global) (r : Result Unfolded (OrMemory UnfoldFault)) (e : OrMemory UnfoldFault) → 0 < length ts → t ≡ get_or ts 0 t → IsErrAnd r (λ d. d ≡ e)
        → IsRefusal v.room (one (tuple_of t)) e → Unfolds (folding_in k) v.truth v.room (summed ts) r
    first-one-refused t r e some is same h =
        let first = ap operator_count (sum-first ts t some is) in
        let within = sum-within ts 1 in
        err-kept r e (IsUnfolded (folding_in k) v.truth v.room (summed ts)) (IsRefusal v.room (summed ts)) same
        (refusal-weaker v.room v.room (one (tuple_of t)) (summed ts) e (λ g. omega (arith, first, within, g)) h)

    -- all of them
    pub all-summed : (i : ℕ) {u : Unfolded} → (i < length ts → ⊥) → IsSummedTo ts i u → IsUnfolded (folding_in k) v.truth v.room (summed ts) u
    all-summed i {u = u} end h = subst (λ (ws : List (Vec Written Global)). IsUnfolded (folding_in k) v.truth v.room (summed ws) u) (taken-all ts i end) (h v.truth)

    module _ (i : ℕ) (t : Vec Written Global) (some : 0 < i) (within : i < length ts) (is : t ≡ get_or ts i t) {u : Unfolded} (before : IsSummedTo ts i u) where
      -- there is no room for a plus
      pub sum-without-room : {p : Place} (r : Result Unfolded (OrMemory UnfoldFault)) (e : OrMemory UnfoldFault) → IsErrAnd r (λ d. d ≡ e)
          → e ≡ Refused (record { rule = rule.Operators; place = p }) → u.room ≡ 0 → Unfolds (folding_in k) v.truth v.room (summed ts) r
      sum-without-room {p = p} r e same refused none =
          let left = (before true).room in
          let size = next-within ts i t some within is in
          err-kept r e (IsUnfolded (folding_in k) v.truth v.room (summed ts)) (IsRefusal v.room (summed ts)) same
          (no-room v.room (summed ts) e p refused (omega (arith, none, left, size)))

      -- or for the choice behind it
      pub next-one-refused : {inner : ℕ} (r : Result Unfolded (OrMemory UnfoldFault)) (e : OrMemory UnfoldFault) → IsErrAnd r (λ d. d ≡ e) → u.room ≡ suc inner
          → IsRefusal inner (one (tuple_of t)) e → Unfolds (folding_in k) v.truth v.room (summed ts) r
      next-one-refused {inner = inner} r e same next h =
          let left = (before true).room in
          let size = next-within ts i t some within is in
          err-kept r e (IsUnfolded (folding_in k) v.truth v.room (summed ts)) (IsRefusal v.room (summed ts)) same
          (refusal-weaker v.room inner (one (tuple_of t)) (summed ts) e (λ g. omega (arith, next, left, size, g)) h)

      -- the next one
      pub further-summed : {inner : ℕ} {D : List SortDeclaration} {right r : Unfolded} → D ≡ k.declarations.now → u.room ≡ suc inner
          → ((truth : Bool) → IsUnfolded (folding_in k) truth inner (one (tuple_of t)) right) → IsCalculation D Plus u right r → IsSummedTo ts (i + 1) r
      further-summed {inner = inner} {right = right} {r = r} sorts next h calculation truth =
          subst (λ (z : Term). IsUnfolded (folding_in k) truth v.room z r) (sum-next ts i t some within is ∙ ap (λ (m : ℕ). summed (take m ts)) (sym (add-one i)))
          (subst (λ (ds : List SortDeclaration). IsCalculation ds Plus u right r) sorts calculation _ _ v.room inner truth next (before false) (h false))

  -- ---- all tuples

  -- the sum over all tuples of the variables is the count
  pub count-said : {xs : List Variable} {tuples : List (List Term)} → map variable_of c.variables.now ≡ xs → tuples ≡ written_tuples (spec_in k) xs
      → counted (conditions_by k v.definitions s c tuples) ≡ count_by k v.definitions s xs (tree.term_of c.condition.now)
  count-said {xs = xs} {tuples = tuples} shows all =
      let x = tree.term_of c.condition.now in
      let ρ = scope_of (spec_in k) (forms_in k) s in
      let at-values : List Variable → List Term → Term = λ zs ks. put_in (spec_in k) (forms_in k v.definitions) (standing zs (terms_of ks) ρ) x in
      ap (λ (zs : List Variable). counted (map (at-values zs) tuples)) shows
      ∙ ap (λ (kss : List (List Term)). counted (map (at-values xs) kss)) all
      ∙ ap counted (sym (copies-of-tuples (spec_in k) xs (λ σ. put_in (spec_in k) (forms_in k v.definitions) σ x) ρ))

  -- ---- what is met

  pub counted-at-met : (ts : List (Vec Written Global)) (i : ℕ) (t : Vec Written Global) → i < length ts → t ≡ get_or ts i t
      → (whole : Occurrence) → AreCountedMet k v.depth v.definitions s c (map tuple_of ts) whole → IsCountedMet k v.depth v.definitions s c (tuple_of t) whole
  counted-at-met ts i t within is whole h = (h.0 (tuple_of t) (mapped-in tuple_of ts t (item-in ts i t within is)), h.1, h.2)

-- the body of a quantifier that is met
pub quantified-counted : (k : Context) (v : Level) (s : declared_scope.TermScope) (c : Counted) (q : Quantified) {tuples : List (List Term)}
    → map variable_of c.variables.now ≡ erased_variables (variable_forms q.variables.now) → tuples ≡ written_tuples (spec_in k) (erased_variables (variable_forms q.variables.now))
    → c.place ≡ q.place → c.condition.now ≡ q.body.now
    → (whole : Occurrence) → IsTermMet k (suc v.depth) v.definitions s (TermForm.quantified q.quantifier q.place (variable_forms q.variables.now) (term_form q.body.now)) whole
    → AreCountedMet k v.depth v.definitions s c tuples whole
quantified-counted k v s c q shows all place body whole h =
    let forms = variable_forms q.variables.now in
    let x = term_form q.body.now in (
      λ ks in-it. subst (λ (y : declared_term.Term). IsMetAt k v.depth v.definitions (standing (map variable_of c.variables.now) (terms_of ks) (scope_said k s)) (term_form y) whole) (sym body)
          (subst (λ (zs : List Variable). IsMetAt k v.depth v.definitions (standing zs (terms_of ks) (scope_said k s)) x whole) (sym shows)
          (Body v.depth v.definitions (scope_said k s) q.quantifier q.place forms x ks h.0 (subst (λ (kss : List (List Term)). Contains kss ks) all in-it))),
      h.1,
      (at (suc v.depth) v.definitions (scope_said k s) (TermForm.quantified q.quantifier q.place forms x), h.0, inl place),
    )

-- without tuples nothing is counted
pub none-counted : (k : Context) (v : Level) (s : declared_scope.TermScope) (x : Term) (xs : List Variable) {tuples : List (Vec Written Global)} → tuples ≡ []
    → map tuple_of tuples ≡ written_tuples (spec_in k) xs → Term.Number 0 ≡ count_by k v.definitions s xs x
none-counted k v s x xs none all =
    let ρ = scope_of (spec_in k) (forms_in k) s in
    let at-values : List Term → Term = λ ks. put_in (spec_in k) (forms_in k v.definitions) (standing xs (terms_of ks) ρ) x in
    ap (λ (ts : List (Vec Written Global)). counted (map at-values (map tuple_of ts))) (sym none)
    ∙ ap (λ (kss : List (List Term)). counted (map at-values kss)) all
    ∙ ap counted (sym (copies-of-tuples (spec_in k) xs (λ σ. put_in (spec_in k) (forms_in k v.definitions) σ x) ρ))

-- ---- as an application

first-there : (given : List Argument) (a : Argument) → Some a ≡ slice_get given 0 → (0 < length given) × (a ≡ get_or given 0 a)
first-there [] a there = absurd (not-none a there)
first-there (b ∷ given) a there = (omega arith, some-is a b there)

module _ (S : Spec) (forms : Forms) (ρ : TermScope) where
  -- what is counted is the first argument
  pub counting-first : (given : List Argument) (a : Argument) → Some a ≡ slice_get given 0
      → count_of_put_in S forms ρ (tree.term_of a.term) ≡ put_in S forms ρ (Term.Apply counting (tree.terms_of given))
  counting-first [] a there = absurd (not-none a there)
  counting-first (b ∷ given) a there = ap (λ (d : Argument). count_of_put_in S forms ρ (tree.term_of d.term)) (some-is a b there)

  -- and nothing without arguments
  pub counting-none : (given : List Argument) → None ≡ slice_get given 0 → Term.Number 0 ≡ put_in S forms ρ (Term.Apply counting (tree.terms_of given))
  counting-none [] none = refl
  counting-none (b ∷ given) none = absurd (none-not b none)

module _ (k : Context) (v : Level) (s : declared_scope.TermScope) (p : Place) (given : List Argument) (a : Argument) (there : Some a ≡ slice_get given 0) where
  -- the quantifier's count is what is put in
  pub counting-quantified : (q : Quantified) → IsQuantifierIn (Some q) (term_form a.term)
      → count_by k v.definitions s (erased_variables (variable_forms q.variables.now)) (tree.term_of q.body.now) ≡ put k v.definitions s (Term.Apply counting (tree.terms_of given))
  counting-quantified q is =
      let ρ = scope_of (spec_in k) (forms_in k) s in
      ap (λ (x : TermForm). count_of_put_in (spec_in k) (forms_in k v.definitions) ρ (erased_term x)) (sym is) ∙ counting-first (spec_in k) (forms_in k v.definitions) ρ given a there

  -- what is no quantifier counts nothing
  pub counting-other : IsQuantifierIn None (term_form a.term) → Term.Number 0 ≡ put k v.definitions s (Term.Apply counting (tree.terms_of given))
  counting-other other =
      let ρ = scope_of (spec_in k) (forms_in k) s in
      sym (other (spec_in k) (forms_in k v.definitions) ρ) ∙ counting-first (spec_in k) (forms_in k v.definitions) ρ given a there

  -- the argument is met with a level less
  pub counting-met : (whole : Occurrence) → IsTermMet k (suc v.depth) v.definitions s (TermForm.application (record { place = p; text = counting }) (argument_forms given)) whole
      → IsTermMet k v.depth v.definitions s (term_form a.term) whole
  counting-met whole h =
      let first = first-there given a there in
      subst (λ (b : Argument). IsTermMet k v.depth v.definitions s (term_form b.term) whole) (sym first.1)
      (argument-part-met k v s (record { place = p; text = counting }) given 0 a first.0 first.1 whole h)

  -- as the quantifier that it is
  pub counting-quantifier-met : {depth : ℕ} (q : Quantified) → IsQuantifierIn (Some q) (term_form a.term) → v.depth ≡ suc depth
      → (whole : Occurrence) → IsTermMet k (suc v.depth) v.definitions s (TermForm.application (record { place = p; text = counting }) (argument_forms given)) whole
      → IsTermMet k (suc depth) v.definitions s (TermForm.quantified q.quantifier q.place (variable_forms q.variables.now) (term_form q.body.now)) whole
  counting-quantifier-met q is less whole h =
      subst (λ (l : ℕ). IsTermMet k l v.definitions s (TermForm.quantified q.quantifier q.place (variable_forms q.variables.now) (term_form q.body.now)) whole) less
      (subst (λ (x : TermForm). IsTermMet k v.depth v.definitions s x whole) is (counting-met whole h))

  -- it is told where no level is left for it
  pub counting-deep : {q : Place} → q ≡ told_at (term_form a.term) → v.depth < 1
      → (whole : Occurrence) → IsTermMet k (suc v.depth) v.definitions s (TermForm.application (record { place = p; text = counting }) (argument_forms given)) whole
      → IsDepthFault (surroundings_in k) whole q
  counting-deep told none whole h = inl (
    at v.depth v.definitions (scope_said k s) (term_form a.term),
    (counting-met whole h).0,
    inl (omega (arith, none)),
    told,
  )
