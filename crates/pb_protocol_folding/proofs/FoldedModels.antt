-- Folded models do what the models do.
use Rattle.std.proofs.Common.{◌≡◌, ℕ, suc, Bool, true, false, true≢false, not, ◌&&◌, ◌||◌, cond, if◌then◌else◌, List, [], ◌∷◌, ◌++◌, map, flat_map, refl, sym, ap, ◌∙◌, subst}
use Rattle.std.specs.Prelude.{filter, Option, Some, None}
use Rattle.std.specs.List.{list_any, list_all}
use Rattle.std.proofs.Math.Path.{fun_ext}
use Rattle.std.proofs.lemmas.Slice.Eq.{bytes_eq-Decides}
use Rattle.pb_fixpoint.specs.Solution.{iterate, start}
use Rattle.pb_base_values.specs.Carrier.{Value, Tuple, of_bool, tuples}
use Rattle.pb_text_meaning.specs.Syntax.{Name, same_name, Variable, Term, Enumerator, Sort, Struct, Alias, SortDeclaration, Spec}
use Rattle.pb_text_meaning.specs.Sorts.{place_from, or_else, place_within, place_in}
use Rattle.pb_text_meaning.specs.Formula.{carriers_of}
use Rattle.pb_text_meaning.specs.Value as data_value
use Rattle.pb_text_meaning.specs.Value.{looked_up, named_value, is_true, value, values}
use Rattle.pb_text_meaning.specs.Meaning.{assigned}
use Rattle.pb_model_meaning.specs.Syntax.{Assignment, Step, StepSet, Formula, Model}
use Rattle.pb_model_meaning.specs.Steps.{State, data_of, is_state, state_count, initial_state, in_scope, is_enabled, assigned_term, value_after, state_after, next_state, successors_by, has_step, successors}
use Rattle.pb_model_meaning.specs.Satisfaction.{States, Valuation, with_set, no_sets, is_truth, holds_at, satisfying, satisfies}
use Rattle.pb_model_translation.specs.Positive.{is_constant}
use Rattle.pb_protocol_folding.specs.Folding.{is_false, folded}
use Rattle.pb_protocol_folding.specs.FoldedModels.{folded_assignment, is_name, is_change, folded_assignments, folded_step, is_possible, folded_steps, is_left, is_none, folded_union, folded_set, decided, unless_constant, and_formula, or_formula, implies_formula, not_formula, folded_property_formula, folded_model}
use Rattle.pb_protocol_folding.specs.Names.{IsNot, AreDistinct, AreNot, names_of, names_in, enumerators_in, HidesNoEnumerator, HaveNoneOf, AssignOnce}
use Rattle.pb_protocol_folding.specs.Laws.{HidesNoNames, FoldingKeepsInitialStates, FoldingKeepsSteps, FoldingKeepsFormulas}
use Rattle.pb_protocol_folding.proofs.FoldingLaws.{truth-kept, value-kept, values-kept}

pub same-names : (x y : Name) → same_name x y ≡ true → x ≡ y
same-names x y e = (bytes_eq-Decides x y).0 e

pub same-self : (x : Name) → same_name x x ≡ true
same-self x = (bytes_eq-Decides x x).1 refl

pub none-left : {A : Type 0} (xs : List A) → filter (λ (x : A). false) xs ≡ []
none-left [] = refl
none-left (x ∷ xs) = none-left xs

pub are-not-left : (xs ys zs : List Name) → AreNot (xs ++ ys) zs → AreNot xs zs
are-not-left [] ys zs h = tt
are-not-left (x ∷ xs) ys zs h = (h.0, are-not-left xs ys zs h.1)

pub are-not-right : (xs ys zs : List Name) → AreNot (xs ++ ys) zs → AreNot ys zs
are-not-right [] ys zs h = h
are-not-right (x ∷ xs) ys zs h = are-not-right xs ys zs h.1

-- an enumerator that has a place is one of the enumerators
placed-is-not : (x : Name) (zs : List Name) (k n : ℕ) (es : List Enumerator) → AreNot (map (λ (e : Enumerator). e.name) es) zs → place_from n (λ e. same_name e.name x) es ≡ Some k → IsNot x zs
placed-is-not x zs k n [] new h = absurd (cc)
placed-is-not x zs k n (e ∷ es) new h = by (same_name e.name x) refl h (λ g. placed-is-not x zs k (suc n) es new.1 g)
  where
    by : (b : Bool) → same_name e.name x ≡ b → (if b then Some n else place_from (suc n) (λ e. same_name e.name x) es) ≡ Some k →
        (place_from (suc n) (λ e. same_name e.name x) es ≡ Some k → IsNot x zs) → IsNot x zs
    by true h g others = subst (λ y. IsNot y zs) (same-names e.name x h) new.0
    by false h g others = others g

pub enumerator-is-not : (x : Name) (zs : List Name) (k : ℕ) (ds : List SortDeclaration) → AreNot (enumerators_in ds) zs → place_in (λ e. same_name e.name x) ds ≡ Some k → IsNot x zs
enumerator-is-not x zs k [] new h = absurd (cc)
enumerator-is-not x zs k (d ∷ ds) new h =
    by d.sort (are-not-left (names_in d.sort) (enumerators_in ds) zs new) h (λ g. enumerator-is-not x zs k ds (are-not-right (names_in d.sort) (enumerators_in ds) zs new) g)
  where
    by : (s : Sort) → AreNot (names_in s) zs → or_else (place_within (λ e. same_name e.name x) s) (place_in (λ e. same_name e.name x) ds) ≡ Some k →
        (place_in (λ e. same_name e.name x) ds ≡ Some k → IsNot x zs) → IsNot x zs
    by (Alias t) new h others = others h
    by (Struct es) new h others = which (place_from 0 (λ e. same_name e.name x) es) refl h
      where
        which : (o : Option ℕ) → place_from 0 (λ e. same_name e.name x) es ≡ o → or_else o (place_in (λ e. same_name e.name x) ds) ≡ Some k → IsNot x zs
        which (Some n) e g = placed-is-not x zs n 0 es new e
        which None e g = others g

looked_up-other : (xs : List Variable) (vs : Tuple) (a : data_value.Assignment) (x : Name) → IsNot x (names_of xs) → looked_up (assigned xs vs a) x ≡ looked_up a x
looked_up-other [] vs a x new = refl
looked_up-other (y ∷ xs) [] a x new = refl
looked_up-other (y ∷ xs) (v ∷ vs) a x new = looked_up-other xs vs ((y.name, v) ∷ a) x new.1 ∙ by (same_name y.name x) new.0
  where
    by : (b : Bool) → b ≡ false → (if b then Some v else looked_up a x) ≡ looked_up a x
    by true h = absurd (true≢false h)
    by false h = refl

-- ---- connectives of folded formulas

-- what is decided is no constant, and holds at all states or at none
decided-truth : (f : Formula) (b : Bool) → decided f ≡ Some b → is_truth f ≡ false
decided-truth (Formula.Data x) b e = refl
decided-truth f b e = absurd (cc e)

module _ (m : Model) (V : Valuation) (s : State) where
  abbrev holds : Formula → Bool
  holds f = satisfying m V f s

  decided-holds : (f : Formula) (b : Bool) → decided f ≡ Some b → holds f ≡ b
  decided-holds (Formula.Data (Term.Truth c)) b e =
      let same : c ≡ b = cc in
      by c ∙ same
    where
      by : (c : Bool) → is_true (of_bool c) ≡ c
      by true = refl
      by false = refl
  decided-holds f b e = absurd (cc e)

  unless-holds : (f whole : Formula) → holds whole ≡ holds f → holds (unless_constant f whole) ≡ holds f
  unless-holds f whole h = by (is_constant f)
    where
      by : (b : Bool) → holds (if b then whole else f) ≡ holds f
      by true = h
      by false = refl

  and-holds : (f g : Formula) (o p : Option Bool) → decided f ≡ o → decided g ≡ p → holds (and_formula o p f g) ≡ (holds f && holds g)
  and-holds f g (Some true) p e h =
      let same : (holds f && holds g) ≡ holds g = ap (λ b. b && holds g) (decided-holds f true e) in
      unless-holds g (Formula.And f g) same ∙ sym same
  and-holds f g (Some false) p e h = decided-holds f false e ∙ sym (ap (λ b. b && holds g) (decided-holds f false e))
  and-holds f g None (Some true) e h =
      let same : (holds f && holds g) ≡ holds f = ap (λ b. holds f && b) (decided-holds g true h) ∙ right (holds f) in
      unless-holds f (Formula.And f g) same ∙ sym same
    where
      right : (b : Bool) → (b && true) ≡ b
      right true = refl
      right false = refl
  and-holds f g None (Some false) e h = decided-holds g false h ∙ (right (holds f) ∙ sym (ap (λ b. holds f && b) (decided-holds g false h)))
    where
      right : (b : Bool) → false ≡ (b && false)
      right true = refl
      right false = refl
  and-holds f g None None e h = refl

  or-holds : (f g : Formula) (o p : Option Bool) → decided f ≡ o → decided g ≡ p → holds (or_formula o p f g) ≡ (holds f || holds g)
  or-holds f g (Some true) p e h = decided-holds f true e ∙ sym (ap (λ b. b || holds g) (decided-holds f true e))
  or-holds f g (Some false) p e h =
      let same : (holds f || holds g) ≡ holds g = ap (λ b. b || holds g) (decided-holds f false e) in
      unless-holds g (Formula.Or f g) same ∙ sym same
  or-holds f g None (Some true) e h = decided-holds g true h ∙ (right (holds f) ∙ sym (ap (λ b. holds f || b) (decided-holds g true h)))
    where
      right : (b : Bool) → true ≡ (b || true)
      right true = refl
      right false = refl
  or-holds f g None (Some false) e h =
      let same : (holds f || holds g) ≡ holds f = ap (λ b. holds f || b) (decided-holds g false h) ∙ right (holds f) in
      unless-holds f (Formula.Or f g) same ∙ sym same
    where
      right : (b : Bool) → (b || false) ≡ b
      right true = refl
      right false = refl
  or-holds f g None None e h = refl

  implies-holds : (f g : Formula) (o p : Option Bool) → decided f ≡ o → decided g ≡ p → holds (implies_formula o p f g) ≡ (not (holds f) || holds g)
  implies-holds f g (Some true) p e h =
      let same : (not (holds f) || holds g) ≡ holds g = ap (λ b. not b || holds g) (decided-holds f true e) in
      unless-holds g (Formula.Implies f g) same ∙ sym same
  implies-holds f g (Some false) p e h = sym (ap (λ b. not b || holds g) (decided-holds f false e))
  implies-holds f g None (Some true) e h = decided-holds g true h ∙ (right (holds f) ∙ sym (ap (λ b. not (holds f) || b) (decided-holds g true h)))
    where
      right : (b : Bool) → true ≡ (not b || true)
      right true = refl
      right false = refl
  implies-holds f g None (Some false) e h = right (holds f) ∙ sym (ap (λ b. not (holds f) || b) (decided-holds g false h))
    where
      right : (b : Bool) → not b ≡ (not b || false)
      right true = refl
      right false = refl
  implies-holds f g None None e h = refl

  not-holds : (f : Formula) (o : Option Bool) → decided f ≡ o → holds (not_formula o f) ≡ not (holds f)
  not-holds f (Some b) e = decided-holds (Formula.Data (Term.Truth (not b))) (not b) refl ∙ sym (ap not (decided-holds f b e))
  not-holds f None e = refl

-- no connective makes `true`
unless-truth : (f whole : Formula) → is_truth whole ≡ false → is_truth (unless_constant f whole) ≡ false
unless-truth (Formula.Truth b) whole h = h
unless-truth (Formula.Data x) whole h = refl
unless-truth (Formula.Named X) whole h = refl
unless-truth (Formula.Not f) whole h = refl
unless-truth (Formula.And f g) whole h = refl
unless-truth (Formula.Or f g) whole h = refl
unless-truth (Formula.Implies f g) whole h = refl
unless-truth (Formula.Box A f) whole h = refl
unless-truth (Formula.Diamond A f) whole h = refl
unless-truth (Formula.Fixpoint sign X f) whole h = refl

and-truth : (f g : Formula) (o p : Option Bool) → decided f ≡ o → decided g ≡ p → is_truth (and_formula o p f g) ≡ false
and-truth f g (Some true) p e h = unless-truth g (Formula.And f g) refl
and-truth f g (Some false) p e h = decided-truth f false e
and-truth f g None (Some true) e h = unless-truth f (Formula.And f g) refl
and-truth f g None (Some false) e h = decided-truth g false h
and-truth f g None None e h = refl

or-truth : (f g : Formula) (o p : Option Bool) → decided f ≡ o → decided g ≡ p → is_truth (or_formula o p f g) ≡ false
or-truth f g (Some true) p e h = decided-truth f true e
or-truth f g (Some false) p e h = unless-truth g (Formula.Or f g) refl
or-truth f g None (Some true) e h = decided-truth g true h
or-truth f g None (Some false) e h = unless-truth f (Formula.Or f g) refl
or-truth f g None None e h = refl

implies-truth : (f g : Formula) (o p : Option Bool) → decided f ≡ o → decided g ≡ p → is_truth (implies_formula o p f g) ≡ false
implies-truth f g (Some true) p e h = unless-truth g (Formula.Implies f g) refl
implies-truth f g (Some false) p e h = refl
implies-truth f g None (Some true) e h = decided-truth g true h
implies-truth f g None (Some false) e h = refl
implies-truth f g None None e h = refl

not-truth : (f : Formula) (o : Option Bool) → is_truth (not_formula o f) ≡ false
not-truth f (Some b) = refl
not-truth f None = refl

-- ---- assignments

-- what isn't assigned isn't assigned by what is folded
none-assigned : (spec : Spec) (list : List Assignment) (x : Name) → IsNot x (map (λ (b : Assignment). b.variable) list) → assigned_term (folded_assignments spec list) x ≡ None
none-assigned spec [] x new = refl
none-assigned spec (a ∷ list) x new = by (is_change (folded_assignment spec a)) (none-assigned spec list x new.1)
  where
    by : (b : Bool) → assigned_term (folded_assignments spec list) x ≡ None → assigned_term (cond b (folded_assignment spec a ∷ folded_assignments spec list) (folded_assignments spec list)) x ≡ None
    by false h = h
    by true h = ap (λ c. if c then Some (folded spec false a.term) else assigned_term (folded_assignments spec list) x) new.0 ∙ h

-- a variable has the value that stands for it
is-name : (x : Name) (t : Term) → is_name x t ≡ true → t ≡ Term.Named x
is-name x (Term.Named y) e = ap Term.Named (sym (same-names x y e))
is-name x t e = absurd (true≢false (sym e))

-- each variable stands for its value in a state
abbrev Stand : (Term → Value) → List Variable → State → Type 0
Stand evaluate [] s = Unit {0}
Stand evaluate (x ∷ xs) [] = Unit {0}
Stand evaluate (x ∷ xs) (v ∷ s) = (evaluate (Term.Named x.name) ≡ v) × Stand evaluate xs s

module _ (spec : Spec) (evaluate : Term → Value) (keeps : (x : Term) → evaluate (folded spec false x) ≡ evaluate x) where
  assigned-folded : (list : List Assignment) (x : Name) (v : Value) → AreDistinct (map (λ (b : Assignment). b.variable) list) → evaluate (Term.Named x) ≡ v →
      value_after evaluate (assigned_term (folded_assignments spec list) x) v ≡ value_after evaluate (assigned_term list x) v
  assigned-folded [] x v apart stands = refl
  assigned-folded (a ∷ list) x v apart stands =
      by (is_name a.variable (folded spec false a.term)) refl (same_name a.variable x) refl (assigned-folded list x v apart.1 stands)
    where
      by : (dropped : Bool) → is_name a.variable (folded spec false a.term) ≡ dropped → (b : Bool) → same_name a.variable x ≡ b →
          value_after evaluate (assigned_term (folded_assignments spec list) x) v ≡ value_after evaluate (assigned_term list x) v →
          value_after evaluate (assigned_term (cond (not dropped) (folded_assignment spec a ∷ folded_assignments spec list) (folded_assignments spec list)) x) v
          ≡ value_after evaluate (if b then Some a.term else assigned_term list x) v
      by true e false h others = others
      by true e true h others =
          let here : a.variable ≡ x = same-names a.variable x h in
          ap (λ o. value_after evaluate o v) (none-assigned spec list x (subst (λ y. IsNot y (map (λ (b : Assignment). b.variable) list)) here apart.0)) ∙
          (sym stands ∙ (ap (λ y. evaluate (Term.Named y)) (sym here) ∙
          (ap evaluate (sym (is-name a.variable (folded spec false a.term) e)) ∙ keeps a.term)))
      by false e b h others = ap (λ c. value_after evaluate (if c then Some (folded spec false a.term) else assigned_term (folded_assignments spec list) x) v) h ∙ taken b others
        where
          taken : (b : Bool) → value_after evaluate (assigned_term (folded_assignments spec list) x) v ≡ value_after evaluate (assigned_term list x) v →
              value_after evaluate (if b then Some (folded spec false a.term) else assigned_term (folded_assignments spec list) x) v
              ≡ value_after evaluate (if b then Some a.term else assigned_term list x) v
          taken true others = keeps a.term
          taken false others = others

  after-folded : (list : List Assignment) → AreDistinct (map (λ (b : Assignment). b.variable) list) → (xs : List Variable) (s : State) → Stand evaluate xs s →
      state_after evaluate (folded_assignments spec list) xs s ≡ state_after evaluate list xs s
  after-folded list apart [] s stand = refl
  after-folded list apart (x ∷ xs) [] stand = refl
  after-folded list apart (x ∷ xs) (v ∷ s) stand =
      ap (λ u. u ∷ state_after evaluate (folded_assignments spec list) xs s) (assigned-folded list x.name v apart stand.0) ∙
      ap (λ us. value_after evaluate (assigned_term list x.name) v ∷ us) (after-folded list apart xs s stand.1)

-- variables that are apart, and none of which is a step's own, stand for their values
all-stand : (spec : Spec) (own : List Variable) (vs : Tuple) (xs : List Variable) (s : State) (a : data_value.Assignment) → AreDistinct (names_of xs) → AreNot (names_of xs) (names_of own) →
    Stand (value spec (assigned own vs (assigned xs s a))) xs s
all-stand spec own vs [] s a apart new = tt
all-stand spec own vs (x ∷ xs) [] a apart new = tt
all-stand spec own vs (x ∷ xs) (v ∷ s) a apart new = (
  ap (λ o. named_value spec o x.name)
      (looked_up-other own vs (assigned xs s ((x.name, v) ∷ a)) x.name new.0 ∙
      (looked_up-other xs s ((x.name, v) ∷ a) x.name apart.0 ∙ ap (λ b. if b then Some v else looked_up a x.name) (same-self x.name))),
  all-stand spec own vs xs s ((x.name, v) ∷ a) apart.1 new.1,
)

-- ---- sets of steps

has-none : (A : StepSet) (x : Name) → is_none A ≡ true → has_step A x ≡ false
has-none (StepSet.Complement StepSet.All) x e = refl
has-none (StepSet.Complement (StepSet.Only y)) x e = absurd (true≢false (sym e))
has-none (StepSet.Complement (StepSet.Complement A)) x e = absurd (true≢false (sym e))
has-none (StepSet.Complement (StepSet.Union A B)) x e = absurd (true≢false (sym e))
has-none A x e = absurd (true≢false (sym e))

union-has : (A B : StepSet) (x : Name) → has_step (folded_union A B) x ≡ (has_step A x || has_step B x)
union-has A B x = by (is_none A) refl (is_none B) refl
  where
    by : (b : Bool) → is_none A ≡ b → (c : Bool) → is_none B ≡ c → has_step (if b then B else if c then A else StepSet.Union A B) x ≡ (has_step A x || has_step B x)
    by true e c h = sym (ap (λ b. b || has_step B x) (has-none A x e))
    by false e true h = right (has_step A x) ∙ sym (ap (λ b. has_step A x || b) (has-none B x h))
      where
        right : (b : Bool) → b ≡ (b || false)
        right true = refl
        right false = refl
    by false e false h = refl

-- of a step that is left a set says what it says without those that aren't
set-has : (left : Name → Bool) (A : StepSet) (x : Name) → left x ≡ true → has_step (folded_set left A) x ≡ has_step A x
set-has left StepSet.All x here = refl
set-has left (StepSet.Only y) x here = by (left y) refl
  where
    not-same : (b : Bool) → same_name y x ≡ b → left y ≡ false → false ≡ b
    not-same false e h = refl
    not-same true e h = absurd (true≢false (sym here ∙ (ap left (sym (same-names y x e)) ∙ h)))

    by : (b : Bool) → left y ≡ b → has_step (if b then StepSet.Only y else StepSet.Complement StepSet.All) x ≡ same_name y x
    by true h = refl
    by false h = not-same (same_name y x) refl h
set-has left (StepSet.Complement A) x here = ap not (set-has left A x here)
set-has left (StepSet.Union A B) x here =
    union-has (folded_set left A) (folded_set left B) x ∙
    (ap (λ b. b || has_step (folded_set left B) x) (set-has left A x here) ∙ ap (λ b. has_step A x || b) (set-has left B x here))

-- tests that agree on the names of these steps pass the same
agree-filtered : (p q : Name → Bool) (steps : List Step) → ((x : Name) → list_any (λ (a : Step). same_name a.name x) steps ≡ true → p x ≡ q x) →
    filter (λ (a : Step). p a.name) steps ≡ filter (λ (a : Step). q a.name) steps
agree-filtered p q [] agree = refl
agree-filtered p q (a ∷ steps) agree =
    ap (λ b. cond b (a ∷ filter (λ (a : Step). p a.name) steps) (filter (λ (a : Step). p a.name) steps))
    (agree a.name (ap (λ b. b || list_any (λ (b : Step). same_name b.name a.name) steps) (same-self a.name))) ∙
    ap (λ l. cond (q a.name) (a ∷ l) l) (agree-filtered p q steps (λ x h. agree x (behind (same_name a.name x) h)))
  where
    behind : (b : Bool) {c : Bool} → c ≡ true → (b || c) ≡ true
    behind true h = refl
    behind false h = h

module _ (m : Model) (hides : HidesNoNames m) where
  hides-at : (s : State) → HidesNoEnumerator (data_of m) (assigned m.variables s [])
  hides-at s x n h = looked_up-other m.variables s [] x (enumerator-is-not x (names_of m.variables) n m.sorts hides.values h)

  hides-in : (s : State) (a : Step) (own : Tuple) → AreNot (enumerators_in m.sorts) (names_of a.variables) → HidesNoEnumerator (data_of m) (in_scope m s a own)
  hides-in s a own new x n h =
      looked_up-other a.variables own (assigned m.variables s []) x (enumerator-is-not x (names_of a.variables) n m.sorts new h) ∙ hides-at s x n h

  -- ---- steps

  module _ (s : State) where
    next-folded : (a : Step) → AreNot (enumerators_in m.sorts) (names_of a.variables) → AreNot (names_of m.variables) (names_of a.variables) →
        AreDistinct (map (λ (b : Assignment). b.variable) a.assignments) → (own : Tuple) →
        next_state (folded_model m) s (folded_step (data_of m) a) own ≡ next_state m s a own
    next-folded a new apart once own =
        after-folded (data_of m) (value (data_of m) (in_scope m s a own)) (value-kept (data_of m) (in_scope m s a own) (hides-in s a own new)) a.assignments once m.variables s
        (all-stand (data_of m) a.variables own m.variables s [] hides.variables apart)

    enabled-folded : (a : Step) → AreNot (enumerators_in m.sorts) (names_of a.variables) → (own : Tuple) →
        is_enabled (folded_model m) s (folded_step (data_of m) a) own ≡ is_enabled m s a own
    enabled-folded a new own = truth-kept (data_of m) (in_scope m s a own) (hides-in s a own new) a.guard

    by-folded : (a : Step) → AreNot (enumerators_in m.sorts) (names_of a.variables) → AreNot (names_of m.variables) (names_of a.variables) →
        AreDistinct (map (λ (b : Assignment). b.variable) a.assignments) → successors_by (folded_model m) s (folded_step (data_of m) a) ≡ successors_by m s a
    by-folded a new apart once =
        ap (λ (p : Tuple → Bool). map (next_state (folded_model m) s (folded_step (data_of m) a)) (filter p (tuples (carriers_of (data_of m) a.variables)))) (fun_ext (enabled-folded a new)) ∙
        ap (λ (f : Tuple → State). map f (filter (is_enabled m s a) (tuples (carriers_of (data_of m) a.variables)))) (fun_ext (next-folded a new apart once))

    -- a step whose guard is folded to `false` leads nowhere
    not-enabled : (own : Tuple) (b : data_value.Assignment) (guard : Term) → is_false guard ≡ true → is_true (value (data_of m) b guard) ≡ false
    not-enabled own b (Term.Truth false) h = refl
    not-enabled own b guard h = absurd (true≢false (sym h))

    leads-nowhere : (a : Step) → AreNot (enumerators_in m.sorts) (names_of a.variables) → is_false (folded (data_of m) true a.guard) ≡ true → successors_by m s a ≡ []
    leads-nowhere a new h =
        let all = tuples (carriers_of (data_of m) a.variables) in
        ap (λ (p : Tuple → Bool). map (next_state m s a) (filter p all))
        (fun_ext (λ own. sym (enabled-folded a new own) ∙ not-enabled own (in_scope m s a own) (folded (data_of m) true a.guard) h)) ∙
        ap (map (next_state m s a)) (none-left all)

    steps-folded : (A : StepSet) (steps : List Step) → HaveNoneOf (enumerators_in m.sorts) steps → HaveNoneOf (names_of m.variables) steps → AssignOnce steps →
        flat_map (successors_by (folded_model m) s) (filter (λ (a : Step). has_step A a.name) (filter is_possible (map (folded_step (data_of m)) steps)))
        ≡ flat_map (successors_by m s) (filter (λ (a : Step). has_step A a.name) steps)
    steps-folded A [] new apart once = refl
    steps-folded A (a ∷ steps) new apart once = possibly (is_false (folded (data_of m) true a.guard)) refl (steps-folded A steps new.1 apart.1 once.1)
      where
        by : (b : Bool) →
            flat_map (successors_by (folded_model m) s) (filter (λ (a : Step). has_step A a.name) (filter is_possible (map (folded_step (data_of m)) steps)))
            ≡ flat_map (successors_by m s) (filter (λ (a : Step). has_step A a.name) steps) →
            flat_map (successors_by (folded_model m) s)
            (cond b (folded_step (data_of m) a ∷ filter (λ (a : Step). has_step A a.name) (filter is_possible (map (folded_step (data_of m)) steps)))
            (filter (λ (a : Step). has_step A a.name) (filter is_possible (map (folded_step (data_of m)) steps))))
            ≡ flat_map (successors_by m s) (cond b (a ∷ filter (λ (a : Step). has_step A a.name) steps) (filter (λ (a : Step). has_step A a.name) steps))
        by true e =
            ap (λ l. l
            ++ flat_map (successors_by (folded_model m) s)
            (filter (λ (a : Step). has_step A a.name) (filter is_possible (map (folded_step (data_of m)) steps))))
            (by-folded a new.0 apart.0 once.0) ∙
            ap (λ l. successors_by m s a ++ l) e
        by false e = e

        nowhere : (b : Bool) → successors_by m s a ≡ [] →
            flat_map (successors_by m s) (filter (λ (a : Step). has_step A a.name) steps)
            ≡ flat_map (successors_by m s) (cond b (a ∷ filter (λ (a : Step). has_step A a.name) steps) (filter (λ (a : Step). has_step A a.name) steps))
        nowhere true h = sym (ap (λ l. l ++ flat_map (successors_by m s) (filter (λ (a : Step). has_step A a.name) steps)) h)
        nowhere false h = refl

        possibly : (b : Bool) → is_false (folded (data_of m) true a.guard) ≡ b →
            flat_map (successors_by (folded_model m) s) (filter (λ (a : Step). has_step A a.name) (filter is_possible (map (folded_step (data_of m)) steps)))
            ≡ flat_map (successors_by m s) (filter (λ (a : Step). has_step A a.name) steps) →
            flat_map (successors_by (folded_model m) s)
            (filter (λ (a : Step). has_step A a.name)
            (cond (not b) (folded_step (data_of m) a ∷ filter is_possible (map (folded_step (data_of m)) steps))
            (filter is_possible (map (folded_step (data_of m)) steps))))
            ≡ flat_map (successors_by m s) (cond (has_step A a.name) (a ∷ filter (λ (a : Step). has_step A a.name) steps) (filter (λ (a : Step). has_step A a.name) steps))
        possibly false h e = by (has_step A a.name) e
        possibly true h e = e ∙ nowhere (has_step A a.name) (leads-nowhere a new.0 h)

  pub successors-folded : (A : StepSet) (s : State) → successors (folded_model m) A s ≡ successors m A s
  successors-folded A s = steps-folded s A m.steps hides.own_values hides.own hides.assignments

  pub set-folded : (A : StepSet) (s : State) → successors (folded_model m) (folded_set (is_left m) A) s ≡ successors m A s
  set-folded A s =
      ap (flat_map (successors_by (folded_model m) s))
      (agree-filtered (has_step (folded_set (is_left m) A)) (has_step A) (folded_steps (data_of m) m.steps) (λ x here. set-has (is_left m) A x here)) ∙
      successors-folded A s

  -- ---- formulas

  truth-folded : (f : Formula) → is_truth (folded_property_formula m f) ≡ is_truth f
  truth-folded (Formula.Truth b) = refl
  truth-folded (Formula.Data x) = refl
  truth-folded (Formula.Named X) = refl
  truth-folded (Formula.Not f) = not-truth (folded_property_formula m f) (decided (folded_property_formula m f))
  truth-folded (Formula.And f g) =
      let h = folded_property_formula m f in let k = folded_property_formula m g in and-truth h k (decided h) (decided k) refl refl
  truth-folded (Formula.Or f g) =
      let h = folded_property_formula m f in let k = folded_property_formula m g in or-truth h k (decided h) (decided k) refl refl
  truth-folded (Formula.Implies f g) =
      let h = folded_property_formula m f in let k = folded_property_formula m g in implies-truth h k (decided h) (decided k) refl refl
  truth-folded (Formula.Box A f) = refl
  truth-folded (Formula.Diamond A f) = refl
  truth-folded (Formula.Fixpoint sign X f) = refl

  holds-folded : (f : Formula) (S T : States) → ((s : State) → S s ≡ T s) → (s : State) → holds_at (folded_model m) (folded_property_formula m f) S s ≡ holds_at m f T s
  holds-folded f S T h s =
      ap (λ b. if is_state m s then b else is_truth (folded_property_formula m f)) (h s) ∙
      ap (λ b. if is_state m s then T s else b) (truth-folded f)

  pub satisfying-folded : (f : Formula) (V : Valuation) (s : State) → satisfying (folded_model m) V (folded_property_formula m f) s ≡ satisfying m V f s
  satisfying-folded (Formula.Truth b) V s = refl
  satisfying-folded (Formula.Data x) V s = truth-kept (data_of m) (assigned m.variables s []) (hides-at s) x
  satisfying-folded (Formula.Named X) V s = refl
  satisfying-folded (Formula.Not f) V s =
      let h = folded_property_formula m f in
      not-holds (folded_model m) V s h (decided h) refl ∙ ap not (satisfying-folded f V s)
  satisfying-folded (Formula.And f g) V s =
      let h = folded_property_formula m f in
      let k = folded_property_formula m g in
      and-holds (folded_model m) V s h k (decided h) (decided k) refl refl ∙
      (ap (λ b. b && satisfying (folded_model m) V k s) (satisfying-folded f V s) ∙ ap (λ b. satisfying m V f s && b) (satisfying-folded g V s))
  satisfying-folded (Formula.Or f g) V s =
      let h = folded_property_formula m f in
      let k = folded_property_formula m g in
      or-holds (folded_model m) V s h k (decided h) (decided k) refl refl ∙
      (ap (λ b. b || satisfying (folded_model m) V k s) (satisfying-folded f V s) ∙ ap (λ b. satisfying m V f s || b) (satisfying-folded g V s))
  satisfying-folded (Formula.Implies f g) V s =
      let h = folded_property_formula m f in
      let k = folded_property_formula m g in
      implies-holds (folded_model m) V s h k (decided h) (decided k) refl refl ∙
      (ap (λ b. not b || satisfying (folded_model m) V k s) (satisfying-folded f V s) ∙ ap (λ b. not (satisfying m V f s) || b) (satisfying-folded g V s))
  satisfying-folded (Formula.Box A f) V s =
      ap (λ (p : State → Bool). list_all p (successors (folded_model m) (folded_set (is_left m) A) s))
      (fun_ext (holds-folded f (satisfying (folded_model m) V (folded_property_formula m f)) (satisfying m V f) (satisfying-folded f V))) ∙
      ap (list_all (holds_at m f (satisfying m V f))) (set-folded A s)
  satisfying-folded (Formula.Diamond A f) V s =
      ap (λ (p : State → Bool). list_any p (successors (folded_model m) (folded_set (is_left m) A) s))
      (fun_ext (holds-folded f (satisfying (folded_model m) V (folded_property_formula m f)) (satisfying m V f) (satisfying-folded f V))) ∙
      ap (list_any (holds_at m f (satisfying m V f))) (set-folded A s)
  satisfying-folded (Formula.Fixpoint sign X f) V s =
      ap (λ (g : States → States). iterate (state_count m) g (start sign) s) (fun_ext (λ S. fun_ext (satisfying-folded f (with_set V X S))))

  initial-folded : initial_state (folded_model m) ≡ initial_state m
  initial-folded = values-kept (data_of m) [] (λ x n h. refl) m.initial

  pub satisfies-folded : (f : Formula) → satisfies (folded_model m) (folded_property_formula m f) ≡ satisfies m f
  satisfies-folded f =
      ap (λ (s : State). is_state m s && satisfying (folded_model m) no_sets (folded_property_formula m f) s) initial-folded ∙
      ap (λ b. is_state m (initial_state m) && b) (satisfying-folded f no_sets (initial_state m))

pub folding_keeps_initial_states : FoldingKeepsInitialStates
folding_keeps_initial_states m = values-kept (data_of m) [] (λ x n h. refl) m.initial

pub folding_keeps_steps : FoldingKeepsSteps
folding_keeps_steps m hides A s = (successors-folded m hides A s, set-folded m hides A s)

pub folding_keeps_formulas : FoldingKeepsFormulas
folding_keeps_formulas m hides = (λ V f s. satisfying-folded m hides f V s, satisfies-folded m hides)
