-- Parts of what is met are met, and what their faults tell is told of the whole.
use Rattle.std.proofs.Common.{◌≡◌, ◌<◌, ◌≤◌, ◌∙◌, ◌⊎◌, ◌+◌, ℕ, zero, suc, Bool, true, false, if◌then◌else◌, inl, inr, refl, sym, ap, subst, arith, List, [], ◌∷◌, map, drop, take, length, get_or, Option, Some, None}
use Rattle.std.specs.List.{slice_get}
use Rattle.std.specs.Prelude.{Contains, IfErr, IsErrAnd, Result, Ok, Err}
use Rattle.pb_base.specs.declared.or_memory.OrMemory.{OrMemory}
use Rattle.pb_base.specs.declared.or_memory.OrMemory.TheVariants.{Refused, Memory}
use Rattle.pb_text_tree.specs.declared.place.Place.{Place}
use Rattle.pb_text_tree.specs.declared.operator.Connective.{Connective}
use Rattle.pb_text_tree.specs.declared.term.Argument.{Argument}
use Rattle.pb_text_tree.specs.declared.term.ArithmeticLink.{ArithmeticLink}
use Rattle.pb_text_tree.specs.declared.term.Term as declared_term
use Rattle.pb_text_tree.specs.declared.term.TermLink.{TermLink}
use Rattle.pb_text_tree.specs.Form.{Named, TermForm, argument_forms, arithmetic_links, calculated, chained, term_form, term_links}
use Rattle.pb_text_meaning.specs.Syntax.{Name, same_name, Spec, Term}
use Rattle.pb_text_meaning.specs.Erase.{erased_term}
use Rattle.pb_protocol_folding.specs.Folding.{folded}
use Rattle.pb_protocol_folding.specs.View as tree
use Rattle.pb_protocol_unfolding.specs.PutIn.{TermScope, put_in}
use Rattle.pb_protocol_unfolder_terms.specs.declared.connectives.Chain.{Chain}
use Rattle.pb_protocol_unfolder_terms.specs.declared.context.Context.{Context}
use Rattle.pb_protocol_unfolder_terms.specs.declared.fault.UnfoldFault.{UnfoldFault}
use Rattle.pb_protocol_unfolder_terms.specs.declared.level.Level.{Level}
use Rattle.pb_protocol_unfolder_terms.specs.declared.sorts.Variable.{Variable}
use Rattle.pb_protocol_unfolder_terms.specs.declared.scope.TermScope as declared_scope
use Rattle.pb_protocol_unfolder_terms.specs.Large.{HasManyValues, IsValuesFault}
use Rattle.pb_protocol_unfolder_terms.specs.Met.{HaveOutside, IsArgument, IsCalculated, IsChained, IsIndex, IsIndexFault, IsOutside, IsPart, Itself, Occurrence, Operand, Surroundings, all_index_levels, at, index_levels}
use Rattle.pb_protocol_unfolder_terms.specs.Puts.{put}
use Rattle.pb_protocol_unfolder_terms.specs.Scopes.{looked}
use Rattle.pb_protocol_unfolder_terms.specs.Tells.{AreArgumentsMet, AreIndices, AreIndicesMet, AreMetAt, IsArrayMet, IsFaultOf, IsMetAt, IsReadMet, IsScopeMet, IsTermMet, Tells, scope_said, surroundings_in}
use Rattle.pb_protocol_unfolder_terms.specs.TermFaults.{Breaks, HasValues, IfFaultAt}
use Rattle.pb_protocol_unfolder_terms.specs.Bounds.{IsSeenWithin, sort_interval}
use Rattle.pb_protocol_unfolder_terms.specs.Contexts.{IsSeenInside, folding_in, forms_in, interval_in, spec_in, state_variable_of}
use Rattle.pb_protocol_unfolder_terms.specs.declared.fault.UnfoldRule.{UnfoldRule}
use Rattle.pb_protocol_unfolder_terms.specs.declared.scope.TermScope.TheVariants.{Empty, Values', Arguments'}
use Rattle.pb_protocol_unfolder_terms.specs.View.{variable_of}
use Rattle.pb_protocol_unfolder_terms.proofs.ReadLemmas.{not-none, some-is}
use Rattle.pb_protocol_unfolder_terms.proofs.SortsLemmas.{same-folded}

-- ---- members of lists

pub first-in : {X : Type 0} (x : X) (xs : List X) → Contains (x ∷ xs) x
first-in x xs = (0, omega arith, refl)

pub behind-in : {X : Type 0} (y : X) (xs : List X) (x : X) → Contains xs x → Contains (y ∷ xs) x
behind-in y xs x h = (suc h.0, omega (arith, h.1), h.2)

pub item-in : {X : Type 0} (xs : List X) (k : ℕ) (x : X) → k < length xs → x ≡ get_or xs k x → Contains xs x
item-in xs k x within is = (k, within, sym is)

pub left-in : {X : Type 0} (xs : List X) (x : X) → Contains (drop 1 xs) x → Contains xs x
left-in [] x h = h
left-in (y ∷ xs) x h = behind-in y xs x h

pub mapped-in : {X Y : Type 0} (g : X → Y) (xs : List X) (x : X) → Contains xs x → Contains (map g xs) (g x)
mapped-in g [] x h = absurd (omega (arith, h.1))
mapped-in g (y ∷ xs) x (zero, within, e) = subst (Contains (map g (y ∷ xs))) (ap g e) (first-in (g y) (map g xs))
mapped-in g (y ∷ xs) x (suc k, within, e) = behind-in (g y) (map g xs) (g x) (mapped-in g xs x (k, omega (arith, within), e))

-- ---- what names stand for

either-in : (x : Name) (vs : List Variable) (given : List Argument) (o : Option Argument) (a : Argument) → looked vs given x o ≡ Some a → (o ≡ Some a) ⊎ Contains given a
either-in x [] given o a e = inl e
either-in x (v ∷ vs) [] o a e = inl e
either-in x (v ∷ vs) (b ∷ given) o a e = by (same_name v.name.now x) (either-in x vs given (if same_name v.name.now x then Some b else o) a e)
  where
    by : (t : Bool) → ((if t then Some b else o) ≡ Some a) ⊎ Contains given a → (o ≡ Some a) ⊎ Contains (b ∷ given) a
    by t (inr h) = inr (behind-in b given a h)
    by false (inl h) = inl h
    by true (inl h) = inr (subst (Contains (b ∷ given)) (same h) (first-in b given))
      where
        same : Some b ≡ Some a → b ≡ a
        same i = cc

-- an argument that is found is one of those that are given
pub found-in : (x : Name) (vs : List Variable) (given : List Argument) (a : Argument) → Some a ≡ looked vs given x None → Contains given a
found-in x vs given a e = elim (either-in x vs given None a (sym e)) [
  | inl h ↦ absurd (no h)
  | inr h ↦ h
]
  where
    no : None ≡ Some a → ⊥
    no h = cc

-- ---- parts

-- y is the first operand of a chain, or one behind it
abbrev pub IsChainOperand : TermForm → List TermLink → TermForm → Type 0
IsChainOperand x ls y = (y ≡ x) ⊎ ((d : TermLink) × Contains ls d × (y ≡ term_form d.operand))

module _ (c : Context) (l n : ℕ) (ρ : TermScope) (whole : Occurrence) where
  module _ (k : Connective) where
    link-chained : (x : TermForm) (ls : List TermLink) (d : TermLink) → Contains ls d → IsChained (chained (TermForm.connected k) x (term_links ls)) (term_form d.operand)
    link-chained x [] d h = absurd (omega (arith, h.1))
    link-chained x (m ∷ []) d (zero, within, e) = inr (inl (ap (λ (b : TermLink). term_form b.operand) (sym e)))
    link-chained x (m ∷ o ∷ ls) d (zero, within, e) = inr (inr (inl (ap (λ (b : TermLink). term_form b.operand) (sym e))))
    link-chained x (m ∷ ls) d (suc i, within, e) = inr (inr (link-chained (term_form m.operand) ls d (i, omega (arith, within), e)))

    -- an operand of a chain
    chain-operand-met : (x : TermForm) (ls : List TermLink) (y : TermForm) → 0 < length ls → IsChainOperand x ls y
        → IsMetAt c (suc l) n ρ (chained (TermForm.connected k) x (term_links ls)) whole → IsMetAt c l n ρ y whole
    chain-operand-met x [] y some o h = absurd (omega (arith, some))
    chain-operand-met x (m ∷ ls) y some (inl e) h = Operand l n ρ (chained (TermForm.connected k) x (term_links (m ∷ ls))) y h (inr (inl (inl e)))
    chain-operand-met x (m ∷ ls) y some (inr (d, there, e)) h =
        Operand l n ρ (chained (TermForm.connected k) x (term_links (m ∷ ls))) y h
        (inr (inl (subst (IsChained (chained (TermForm.connected k) x (term_links (m ∷ ls)))) (sym e) (link-chained x (m ∷ ls) d there))))

  calculated-within : (x : TermForm) (ls : List ArithmeticLink) (y : TermForm) → IsCalculated x y → IsCalculated (calculated x (arithmetic_links ls)) y
  calculated-within x [] y h = h
  calculated-within x (m ∷ ls) y h = calculated-within (TermForm.computed m.operator m.place x (term_form m.operand)) ls y (inr (inr h))

  first-calculated : (x : TermForm) (ls : List ArithmeticLink) → 0 < length ls → IsCalculated (calculated x (arithmetic_links ls)) x
  first-calculated x [] some = absurd (omega (arith, some))
  first-calculated x (m ∷ ls) some = calculated-within (TermForm.computed m.operator m.place x (term_form m.operand)) ls x (inr (inl refl))

  link-calculated : (x : TermForm) (ls : List ArithmeticLink) (d : ArithmeticLink) → Contains ls d → IsCalculated (calculated x (arithmetic_links ls)) (term_form d.operand)
  link-calculated x [] d h = absurd (omega (arith, h.1))
  link-calculated x (m ∷ ls) d (zero, within, e) =
      calculated-within (TermForm.computed m.operator m.place x (term_form m.operand)) ls (term_form d.operand) (inl (ap (λ (b : ArithmeticLink). term_form b.operand) (sym e)))
  link-calculated x (m ∷ ls) d (suc i, within, e) = link-calculated (TermForm.computed m.operator m.place x (term_form m.operand)) ls d (i, omega (arith, within), e)

  -- the first operand of arithmetic, and one behind it
  arithmetic-first-met : (x : TermForm) (ls : List ArithmeticLink) → 0 < length ls → IsMetAt c (suc l) n ρ (calculated x (arithmetic_links ls)) whole → IsMetAt c l n ρ x whole
  arithmetic-first-met x ls some h = Operand l n ρ (calculated x (arithmetic_links ls)) x h (inr (inr (first-calculated x ls some)))

  arithmetic-link-met : (x : TermForm) (ls : List ArithmeticLink) (i : ℕ) (d : ArithmeticLink) → i < length ls → d ≡ get_or ls i d
      → IsMetAt c (suc l) n ρ (calculated x (arithmetic_links ls)) whole → IsMetAt c l n ρ (term_form d.operand) whole
  arithmetic-link-met x ls i d within is h =
      Operand l n ρ (calculated x (arithmetic_links ls)) (term_form d.operand) h (inr (inr (link-calculated x ls d (item-in ls i d within is))))

  argument-in : (given : List Argument) (a : Argument) → Contains given a → IsArgument (argument_forms given) (term_form a.term)
  argument-in [] a h = absurd (omega (arith, h.1))
  argument-in (b ∷ given) a (zero, within, e) = inl (ap (λ (d : Argument). term_form d.term) (sym e))
  argument-in (b ∷ given) a (suc k, within, e) = inr (argument-in given a (k, omega (arith, within), e))

  -- the arguments of what is met
  pub arguments-met : (f : Named) (given : List Argument) → IsMetAt c (suc l) n ρ (TermForm.application f (argument_forms given)) whole → AreMetAt c l n ρ given whole
  arguments-met f given h = λ a in-it. Operand l n ρ (TermForm.application f (argument_forms given)) (term_form a.term) h (inl (argument-in given a in-it))

  pub argument-at-met : (given : List Argument) (i : ℕ) (a : Argument) → i < length given → a ≡ get_or given i a → AreMetAt c l n ρ given whole → IsMetAt c l n ρ (term_form a.term) whole
  argument-at-met given i a within is h = h a (item-in given i a within is)

  other-arguments-met : (given : List Argument) → AreMetAt c l n ρ given whole → AreMetAt c l n ρ (drop 1 given) whole
  other-arguments-met given h = λ a in-it. h a (left-in given a in-it)

-- the same term is met
pub same-met : (k : Context) (v : Level) (s : declared_scope.TermScope) {x y : TermForm} → x ≡ y
    → (whole : Occurrence) → IsTermMet k (suc v.depth) v.definitions s x whole → IsTermMet k (suc v.depth) v.definitions s y whole
same-met k v s same whole h = (subst (λ (z : TermForm). IsMetAt k (suc v.depth) v.definitions (scope_said k s) z whole) same h.0, h.1)

-- ---- the parts of a term that is met, with a level less

module _ (k : Context) (v : Level) (s : declared_scope.TermScope) where
  abbrev Met : ℕ → TermForm → Occurrence → Type 0
  Met l x whole = IsTermMet k l v.definitions s x whole

  -- a part of a term as the code holds it
  pub part-met : (x y : declared_term.Term) {u : declared_term.Term} → x ≡ u → IsPart (term_form u) (term_form y) → (whole : Occurrence) → Met (suc v.depth) (term_form x) whole
      → Met v.depth (term_form y) whole
  part-met x y same part whole h = (
    Operand v.depth v.definitions (scope_said k s) (term_form x) (term_form y) h.0
        (inl (subst (λ (z : declared_term.Term). IsPart (term_form z) (term_form y)) (sym same) part)),
    h.1,
  )

  pub chain-part-met : (chain : Chain) (y : TermForm) → 0 < length chain.links.now → IsChainOperand (term_form chain.first.now) chain.links.now y
      → (whole : Occurrence) → Met (suc v.depth) (chained (TermForm.connected chain.connective) (term_form chain.first.now) (term_links chain.links.now)) whole → Met v.depth y whole
  chain-part-met chain y some operand whole h =
      (chain-operand-met k v.depth v.definitions (scope_said k s) whole chain.connective (term_form chain.first.now) chain.links.now y some operand h.0, h.1)

  pub first-part-met : (x : TermForm) (ls : List ArithmeticLink) → 0 < length ls → (whole : Occurrence) → Met (suc v.depth) (calculated x (arithmetic_links ls)) whole → Met v.depth x whole
  first-part-met x ls some whole h = (arithmetic-first-met k v.depth v.definitions (scope_said k s) whole x ls some h.0, h.1)

  pub link-part-met : (x : TermForm) (ls : List ArithmeticLink) (i : ℕ) (d : ArithmeticLink) → i < length ls → d ≡ get_or ls i d
      → (whole : Occurrence) → Met (suc v.depth) (calculated x (arithmetic_links ls)) whole → Met v.depth (term_form d.operand) whole
  link-part-met x ls i d within is whole h = (arithmetic-link-met k v.depth v.definitions (scope_said k s) whole x ls i d within is h.0, h.1)

  -- arguments, and the one at a place
  pub given-met : (f : Named) (given : List Argument) (whole : Occurrence) → Met (suc v.depth) (TermForm.application f (argument_forms given)) whole
      → AreArgumentsMet k v.depth v.definitions s given whole
  given-met f given whole h = (arguments-met k v.depth v.definitions (scope_said k s) whole f given h.0, h.1)

  pub argument-part-met : (f : Named) (given : List Argument) (i : ℕ) (a : Argument) → i < length given → a ≡ get_or given i a
      → (whole : Occurrence) → Met (suc v.depth) (TermForm.application f (argument_forms given)) whole → Met v.depth (term_form (get_or given i a).term) whole
  argument-part-met f given i a within is whole h = (
    subst (λ (b : Argument). IsMetAt k v.depth v.definitions (scope_said k s) (term_form b.term) whole) is
        (argument-at-met k v.depth v.definitions (scope_said k s) whole given i a within is (given-met f given whole h).0),
    h.1,
  )

module _ (c : Context) (n : ℕ) (ρ : TermScope) (whole : Occurrence) where
  -- ---- reads

  -- the first argument is outside
  pub first-outside : (is : List Variable) (given : List Argument) (i : Variable) (a : Argument) → Some i ≡ slice_get is 0 → Some a ≡ slice_get given 0
      → IsOutside (surroundings_in c) n ρ (term_form a.term) i.sort.now → HaveOutside (surroundings_in c) n ρ (argument_forms given) (map variable_of is) a.place
  first-outside [] given i a is there h = absurd (not-none i is)
  first-outside (j ∷ js) [] i a is there h = absurd (not-none a there)
  first-outside (j ∷ js) (b ∷ given) i a is there h =
      inl (
        ap (λ (d : Argument). d.place) (some-is a b there),
        subst (λ (d : Argument). IsOutside (surroundings_in c) n ρ (term_form d.term) j.sort.now) (some-is a b there)
            (subst (λ (v : Variable). IsOutside (surroundings_in c) n ρ (term_form a.term) v.sort.now) (some-is i j is) h),
      )

  -- one behind it is
  others-outside : (is : List Variable) (given : List Argument) (p : Place) → HaveOutside (surroundings_in c) n ρ (argument_forms (drop 1 given)) (map variable_of (drop 1 is)) p
      → HaveOutside (surroundings_in c) n ρ (argument_forms given) (map variable_of is) p
  others-outside is [] p h = absurd h
  others-outside [] (a ∷ []) p h = absurd h
  others-outside [] (a ∷ b ∷ given) p h = absurd h
  others-outside (i ∷ is) (a ∷ given) p h = inr h

-- the first argument isn't seen to stay inside: so the array is read outside
pub index-outside : (c : Context) (n : ℕ) (scope : declared_scope.TermScope) (whole : Occurrence) (is : List Variable) (given : List Argument) (i : Variable) (a : Argument) {p : Place} {t : Term}
    → Some i ≡ slice_get is 0 → Some a ≡ slice_get given 0 → t ≡ folded (folding_in c) false (put c n scope (tree.term_of a.term))
    → (IsSeenWithin (interval_in c t) (sort_interval (spec_in c) i.sort.now) → ⊥) → IsReadMet c n scope p given is whole → IsIndexFault (surroundings_in c) whole a.place
index-outside c n scope whole is given i a there first term unseen h =
    let same = term ∙ same-folded (folding_in c) (spec_in c) refl false (put c n scope (tree.term_of a.term)) in
    h.outside a.place (first-outside c n (scope_said c scope) whole is given i a there first
    (λ seen. unseen (subst (λ (u : Term). IsSeenWithin (interval_in c u) (sort_interval (spec_in c) i.sort.now)) (sym same) seen)))

others-many : (S : Spec) (is : List Variable) → HasManyValues S (map variable_of (drop 1 is)) → HasManyValues S (map variable_of is)
others-many S [] v = v
others-many S (i ∷ is) (x, there, many) = (x, behind-in (variable_of i) (map variable_of is) x there, many)

module _ (c : Context) (n : ℕ) (scope : declared_scope.TermScope) (whole : Occurrence) (p : Place) (is : List Variable) (given : List Argument) where
  read-others : IsReadMet c n scope p given is whole → IsReadMet c n scope p (drop 1 given) (drop 1 is) whole
  read-others h = record {
    scope_met = h.scope_met;
    outside = λ r o. h.outside r (others-outside c n (scope_said c scope) whole is given r o);
    token = h.token;
    values = λ many. h.values (others-many (spec_in c) is many);
  }

  -- behind the first index, which takes d levels
  pub array-others : (k d : ℕ) (i : Variable) (a : Argument) → Some i ≡ slice_get is 0 → Some a ≡ slice_get given 0 → 0 < d
      → d ≤ index_levels (surroundings_in c) n (scope_said c scope) (term_form a.term) (variable_of i)
      → IsArrayMet c (k + d) n scope p given is whole → IsArrayMet c k n scope p (drop 1 given) (drop 1 is) whole
  array-others k d i a there first some within h = record {
    read = read-others h.read;
    index = λ j e y same o. h.index j (d + e) y (omega (arith, same)) (later is given there first e y o);
    deep = λ less. h.deep (more is given there first less);
  }
    where
      m : Surroundings
      m = surroundings_in c

      σ : TermScope
      σ = scope_said c scope

      later : (js : List Variable) (bs : List Argument) → Some i ≡ slice_get js 0 → Some a ≡ slice_get bs 0 → (e : ℕ) (y : TermForm)
          → IsIndex m n σ (argument_forms (drop 1 bs)) (map variable_of (drop 1 js)) e y → IsIndex m n σ (argument_forms bs) (map variable_of js) (d + e) y
      later [] bs u v e y o = absurd (not-none i u)
      later (j ∷ js) [] u v e y o = absurd (not-none a v)
      later (j ∷ js) (b ∷ bs) u v e y o =
          inr (
            d,
            e,
            refl,
            some,
            subst (λ (z : Argument). d ≤ index_levels m n σ (term_form z.term) (variable_of j)) (some-is a b v)
                (subst (λ (z : Variable). d ≤ index_levels m n σ (term_form a.term) (variable_of z)) (some-is i j u) within),
            o,
          )

      more : (js : List Variable) (bs : List Argument) → Some i ≡ slice_get js 0 → Some a ≡ slice_get bs 0
          → k < all_index_levels m n σ (argument_forms (drop 1 bs)) (map variable_of (drop 1 js)) → k + d < all_index_levels m n σ (argument_forms bs) (map variable_of js)
      more [] bs u v less = absurd (not-none i u)
      more (j ∷ js) [] u v less = absurd (not-none a v)
      more (j ∷ js) (b ∷ bs) u v less =
          let bound = subst (λ (z : Argument). d ≤ index_levels m n σ (term_form z.term) (variable_of j)) (some-is a b v)
          (subst (λ (z : Variable). d ≤ index_levels m n σ (term_form a.term) (variable_of z)) (some-is i j u) within) in
          omega (arith, less, bound)

  -- the first index
  pub array-first : (l : ℕ) (i : Variable) (a : Argument) → Some i ≡ slice_get is 0 → Some a ≡ slice_get given 0
      → IsArrayMet c l n scope p given is whole → IsMetAt c l n (scope_said c scope) (term_form a.term) whole
  array-first l i a there first h = h.index l 0 (term_form a.term) (omega arith) (here is given there first)
    where
      here : (js : List Variable) (bs : List Argument) → Some i ≡ slice_get js 0 → Some a ≡ slice_get bs 0
          → IsIndex (surroundings_in c) n (scope_said c scope) (argument_forms bs) (map variable_of js) 0 (term_form a.term)
      here [] bs u v = absurd (not-none i u)
      here (j ∷ js) [] u v = absurd (not-none a v)
      here (j ∷ js) (b ∷ bs) u v = inl (refl, ap (λ (z : Argument). term_form z.term) (some-is a b v))

  -- behind the first argument of what is compared
  pub indices-others : (l : ℕ) → AreIndicesMet c l n scope p given is whole → AreIndicesMet c l n scope p (drop 1 given) (drop 1 is) whole
  indices-others l h = record {
    read = read-others h.read;
    arguments_met = other-arguments-met c l n (scope_said c scope) whole given h.arguments_met;
  }

-- ---- faults

-- an error is passed on
pub err-told : {A : Type 0} (r : Result A (OrMemory UnfoldFault)) (e : OrMemory UnfoldFault) (Q : OrMemory UnfoldFault → Type 0) → IsErrAnd r (λ d. d ≡ e) → Q e → IfErr r Q
err-told (Ok a) e Q h q = absurd h
err-told (Err d) e Q h q = subst Q (sym h) q

-- what is told of a part is told of the whole
pub told : {A : Type 0} {P Q : Occurrence → Type 0} (k : Context) (r : Result A (OrMemory UnfoldFault)) (e : OrMemory UnfoldFault) → IsErrAnd r (λ d. d ≡ e)
    → ((whole : Occurrence) → P whole → IsFaultOf (surroundings_in k) whole e) → ((whole : Occurrence) → Q whole → P whole) → Tells k r Q
told k r e same faults part whole h = err-told r e (IsFaultOf (surroundings_in k) whole) same (faults whole (part whole h))

-- a fault at a place is what P says of it
pub at-weaker : (P Q : UnfoldRule → Place → Type 0) (e : OrMemory UnfoldFault) → ((r : UnfoldRule) (p : Place) → P r p → Q r p) → IfFaultAt P e → IfFaultAt Q e
at-weaker P Q Memory to h = tt
at-weaker P Q (Refused f) to h = to f.rule f.place h

pub at-by : (m : Surroundings) (whole : Occurrence) (P : UnfoldRule → Place → Type 0) (e : OrMemory UnfoldFault)
    → ((r : UnfoldRule) (p : Place) → Breaks m whole r p → P r p) → IsFaultOf m whole e → IfFaultAt P e
at-by m whole P e to h = at-weaker (Breaks m whole) P e to h

-- ---- scopes of values

-- names that stand for values have no arguments
pub values-met : (c : Context) (scope : declared_scope.TermScope) (whole : Occurrence) → HasValues scope → IsScopeMet c scope whole
values-met c Empty whole v = tt
values-met c (Values' variables values p outer) whole v = values-met c outer whole v
values-met c (Arguments' parameters arguments n p user) whole v = absurd v

-- ---- assignments

-- an item of the first k stands where it stands in all
pub taken-at : {X Y : Type 0} (g : X → Y) (k : ℕ) (xs : List X) (y : Y) (there : Contains (map g (take k xs)) y)
    → (all : Contains (map g xs) y) × (all.0 ≡ there.0) × (there.0 < length (map g (take k xs)))
taken-at g zero xs y h = absurd (omega (arith, h.1))
taken-at g (suc k) [] y h = absurd (omega (arith, h.1))
taken-at g (suc k) (x ∷ xs) y (zero, within, e) = ((zero, omega arith, e), refl, within)
taken-at g (suc k) (x ∷ xs) y (suc j, within, e) =
    let rest = taken-at g k xs y (j, omega (arith, within), e) in
    ((suc rest.0.0, omega (arith, rest.0.1), rest.0.2), ap suc rest.1, within)

pub taken-length : {X : Type 0} (k : ℕ) (xs : List X) → length (take k xs) ≤ k
taken-length zero xs = omega arith
taken-length (suc k) [] = omega arith
taken-length (suc k) (x ∷ xs) = omega (arith, taken-length k xs)

no-indices : (c : Context) (n : ℕ) (ρ : TermScope) (given : List Argument) (p : Place) → HaveOutside (surroundings_in c) n ρ (argument_forms given) [] p → ⊥
no-indices c n ρ [] p h = h
no-indices c n ρ (a ∷ given) p h = h

-- an index of what is assigned to is one of what is read
pub assigned-read : (c : Context) (l n : ℕ) (ρ : TermScope) (f : Named) (given : List Argument) (x : Name) (indices : List Variable) → AreIndices c x indices → x ≡ f.text → (p : Place)
    → HaveOutside (surroundings_in c) n ρ (argument_forms given) (map variable_of indices) p
    → IsIndexFault (surroundings_in c) (at l n ρ (TermForm.application f (argument_forms given))) p
assigned-read c l n ρ f given x indices (inl e) same p o =
    absurd (no-indices c n ρ given p (subst (λ (vs : List Variable). HaveOutside (surroundings_in c) n ρ (argument_forms given) (map variable_of vs) p) e o))
assigned-read c l n ρ f given x indices (inr (y, there, name, e)) same p o = (
  at l n ρ (TermForm.application f (argument_forms given)),
  Itself,
  (
    state_variable_of y,
    mapped-in state_variable_of c.variables.items y there,
    name ∙ same,
    subst (λ (vs : List Variable). HaveOutside (surroundings_in c) n ρ (argument_forms given) (map variable_of vs) p) e o,
  ),
)

-- nor has an index of it too many values
pub assigned-many : (c : Context) (l n : ℕ) (ρ : TermScope) (f : Named) (given : List Argument) (x : Name) (indices : List Variable) → AreIndices c x indices → x ≡ f.text
    → HasManyValues (spec_in c) (map variable_of indices)
    → IsValuesFault (surroundings_in c) (at l n ρ (TermForm.application f (argument_forms given))) f.place
assigned-many c l n ρ f given x indices (inl e) same many =
    absurd (none (subst (λ (vs : List Variable). HasManyValues (spec_in c) (map variable_of vs)) e many))
  where
    none : HasManyValues (spec_in c) [] → ⊥
    none v = omega (arith, v.1.1)
assigned-many c l n ρ f given x indices (inr (y, there, name, e)) same many = (
  at l n ρ (TermForm.application f (argument_forms given)),
  Itself,
  (
    refl,
    state_variable_of y,
    mapped-in state_variable_of c.variables.items y there,
    name ∙ same,
    subst (λ (vs : List Variable). HasManyValues (spec_in c) (map variable_of vs)) e many,
  ),
)

-- the first argument isn't seen to stay inside
pub not-inside-outside : (c : Context) (n : ℕ) (ρ : TermScope) (whole : Occurrence) (is : List Variable) (given : List Argument) (a : Argument) (t : Term) → Some a ≡ slice_get given 0
    → t ≡ folded (spec_in c) false (put_in (spec_in c) (forms_in c n) ρ (erased_term (term_form a.term))) → (IsSeenInside c is t → ⊥)
    → HaveOutside (surroundings_in c) n ρ (argument_forms given) (map variable_of is) a.place
not-inside-outside c n ρ whole [] given a t there same h = absurd (h tt)
not-inside-outside c n ρ whole (i ∷ is) given a t there same h =
    first-outside c n ρ whole (i ∷ is) given i a refl there (λ seen. h (subst (λ (u : Term). IsSeenWithin (interval_in c u) (sort_interval (spec_in c) i.sort.now)) (sym same) seen))
