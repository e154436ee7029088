-- Where the steps stay within a set of states, each of these satisfies a formula or its negation.
use Rattle.std.proofs.Common.{◌≡◌, ℕ, zero, suc, Bool, true, false, true≢false, not, ◌&&◌, ◌||◌, if◌then◌else◌, List, [], ◌∷◌, map, filter, flat_map, refl, sym, ap, ◌∙◌}
use Rattle.std.specs.List.{list_any, list_all}
use Rattle.std.proofs.lemmas.Bool.{and_parts, and_from}
use Rattle.std.proofs.lemmas.List.Folds.{list_all-append}
use Rattle.pb_fixpoint.specs.declared.Sign.{Sign}
use Rattle.pb_fixpoint.specs.declared.Sign.TheVariants.{Mu, Nu}
use Rattle.pb_fixpoint.specs.Solution.{iterate, start}
use Rattle.pb_base_values.specs.Carrier.{Value, Carrier, tuples}
use Rattle.pb_text_tree.specs.declared.operator.Quantifier.{Quantifier}
use Rattle.pb_text_tree.specs.declared.operator.Quantifier.TheVariants.{Forall, Exists}
use Rattle.pb_text_meaning.specs.Syntax.{Name, same_name, Variable, Spec}
use Rattle.pb_text_meaning.specs.Sorts.{carrier_of}
use Rattle.pb_text_meaning.specs.Formula.{carriers_of}
use Rattle.pb_text_meaning.specs.Value.{Assignment, of_values, quantified}
use Rattle.pb_model_meaning.specs.Steps.{State}
use Rattle.pb_model_meaning.specs.Satisfaction.{States, Valuation, with_set, no_sets}
use Rattle.pb_protocol_meaning.specs.Syntax.{Step, StepSet, Formula, Protocol}
use Rattle.pb_protocol_meaning.specs.Steps.{data_of, is_state, initial_state, is_enabled, next_state, has_step, successors_by, successors}
use Rattle.pb_protocol_meaning.specs.Satisfaction.{state_count, is_truth, holds_at, satisfying}
use Rattle.pb_model_meaning.proofs.Same.{chosen}
use Rattle.pb_protocol_negation.specs.Dual.{dual_sign, dual_quantifier}
use Rattle.pb_protocol_negation.specs.Negation.{negation}
use Rattle.pb_protocol_negation.specs.Verdict.{IsInvariant, IsClosed}
use Rattle.pb_protocol_negation.specs.Laws.{OneWithoutCuts}

-- ---- truth values

-- b is true where a isn't
abbrev Contrary : Bool → Bool → Type 0
Contrary a b = b ≡ not a

contrary-and : (x y u v : Bool) → Contrary x u → Contrary y v → Contrary (x && y) (u || v)
contrary-and true y u v h k = ap (λ b. b || v) h ∙ k
contrary-and false y u v h k = ap (λ b. b || v) h

contrary-or : (x y u v : Bool) → Contrary x u → Contrary y v → Contrary (x || y) (u && v)
contrary-or true y u v h k = ap (λ b. b && v) h
contrary-or false y u v h k = ap (λ b. b && v) h ∙ k

module _ {X : Type 0} (S p q : X → Bool) (h : (x : X) → S x ≡ true → Contrary (p x) (q x)) where
  contrary-all : (xs : List X) → list_all S xs ≡ true → Contrary (list_all p xs) (list_any q xs)
  contrary-all [] e = refl
  contrary-all (x ∷ xs) e =
      let parts = and_parts (S x) (list_all S xs) e in
      contrary-and (p x) (list_all p xs) (q x) (list_any q xs) (h x parts.0) (contrary-all xs parts.1)

  contrary-any : (xs : List X) → list_all S xs ≡ true → Contrary (list_any p xs) (list_all q xs)
  contrary-any [] e = refl
  contrary-any (x ∷ xs) e =
      let parts = and_parts (S x) (list_all S xs) e in
      contrary-or (p x) (list_any p xs) (q x) (list_all q xs) (h x parts.0) (contrary-any xs parts.1)

each-true : {X : Type 0} (xs : List X) → list_all (λ x. true) xs ≡ true
each-true [] = refl
each-true (x ∷ xs) = each-true xs

contrary-values : (q : Quantifier) (p r : Value → Bool) → ((v : Value) → Contrary (p v) (r v)) → (c : Carrier) →
    Contrary (of_values q p c) (of_values (dual_quantifier q) r c)
contrary-values Forall p r h c = contrary-all (λ v. true) p r (λ v e. h v) c (each-true c)
contrary-values Exists p r h c = contrary-any (λ v. true) p r (λ v e. h v) c (each-true c)

contrary-quantified : (spec : Spec) (q : Quantifier) (xs : List Variable) (p r : Assignment → Bool) → ((a : Assignment) → Contrary (p a) (r a)) → (a : Assignment) →
    Contrary (quantified spec q xs p a) (quantified spec (dual_quantifier q) xs r a)
contrary-quantified spec q [] p r h a = h a
contrary-quantified spec q (x ∷ xs) p r h a =
    contrary-values q (λ v. quantified spec q xs p ((x.name, v) ∷ a)) (λ v. quantified spec (dual_quantifier q) xs r ((x.name, v) ∷ a))
    (λ v. contrary-quantified spec q xs p r h ((x.name, v) ∷ a)) (carrier_of spec x.sort)

-- ---- steps of a set are among all

with-one : {X : Type 0} (S : State → Bool) (g : X → State) (b : Bool) (r : Bool) (x : X) (xs ys : List X) → list_all S (map g (if b then x ∷ xs else xs)) ≡ true →
    (list_all S (map g xs) ≡ true → list_all S (map g ys) ≡ true) → list_all S (map g (if r && b then x ∷ ys else ys)) ≡ true
with-one S g true true x xs ys e h = let parts = and_parts (S (g x)) (list_all S (map g xs)) e in and_from (S (g x)) (list_all S (map g ys)) parts.0 (h parts.1)
with-one S g true false x xs ys e h = h (and_parts (S (g x)) (list_all S (map g xs)) e).1
with-one S g false true x xs ys e h = h e
with-one S g false false x xs ys e h = h e

among-own : {X : Type 0} (S : State → Bool) (g : X → State) (r q : X → Bool) (xs : List X) → list_all S (map g (filter q xs)) ≡ true → list_all S (map g (filter (λ x. r x && q x) xs)) ≡ true
among-own S g r q [] e = refl
among-own S g r q (x ∷ xs) e = with-one S g (q x) (r x) x (filter q xs) (filter (λ x. r x && q x) xs) e (among-own S g r q xs)

module _ (m : Protocol) (S : States) (invariant : IsInvariant m S) where
  among-steps : (c : Assignment) (A : StepSet) (s : State) (steps : List Step) → list_all S (flat_map (successors_by m [] StepSet.All s) steps) ≡ true →
      list_all S (flat_map (successors_by m c A s) steps) ≡ true
  among-steps c A s [] e = refl
  among-steps c A s (a ∷ steps) e =
      let all = successors_by m [] StepSet.All s in
      let parts = and_parts (list_all S (all a)) (list_all S (flat_map all steps)) (sym (list_all-append S (all a) (flat_map all steps)) ∙ e) in
      list_all-append S (successors_by m c A s a) (flat_map (successors_by m c A s) steps)
      ∙ and_from (list_all S (successors_by m c A s a)) (list_all S (flat_map (successors_by m c A s) steps))
      (among-own S (next_state m s a) (has_step m c A a.name) (is_enabled m s a) (tuples (carriers_of (data_of m) a.variables)) parts.0)
      (among-steps c A s steps parts.1)

  stays : (c : Assignment) (A : StepSet) (s : State) → S s ≡ true → list_all S (successors m c A s) ≡ true
  stays c A s e = among-steps c A s m.steps (invariant.closed s e)

  -- ---- formulas

  abbrev AreContrary : States → States → Type 0
  AreContrary T U = (s : State) → S s ≡ true → Contrary (T s) (U s)

  -- of the variables that are bound
  abbrev AreContrarySets : List Name → Valuation → Valuation → Type 0
  AreContrarySets bound V W = (X : Name) → list_any (λ Y. same_name Y X) bound ≡ true → AreContrary (V X) (W X)

  set-contrary : (b r : Bool) (T U A B : States) → AreContrary T U → (r ≡ true → AreContrary A B) → (b || r) ≡ true → AreContrary (if b then T else A) (if b then U else B)
  set-contrary true r T U A B h k e = h
  set-contrary false r T U A B h k e = k e

  with_set-contrary : (bound : List Name) (V W : Valuation) → AreContrarySets bound V W → (X : Name) (T U : States) → AreContrary T U →
      AreContrarySets (X ∷ bound) (with_set V X T) (with_set W X U)
  with_set-contrary bound V W h X T U TU Y = set-contrary (same_name X Y) (list_any (λ Z. same_name Z Y) bound) T U (V Y) (W Y) TU (h Y)

  start-contrary : (sign : Sign) → AreContrary (start sign) (start (dual_sign sign))
  start-contrary Mu s e = refl
  start-contrary Nu s e = refl

  iterates-contrary : (g h : States → States) → ((T U : States) → AreContrary T U → AreContrary (g T) (h U)) → (sign : Sign) (n : ℕ) →
      AreContrary (iterate n g (start sign)) (iterate n h (start (dual_sign sign)))
  iterates-contrary g h step sign zero = start-contrary sign
  iterates-contrary g h step sign (suc n) = step (iterate n g (start sign)) (iterate n h (start (dual_sign sign))) (iterates-contrary g h step sign n)

  holds-contrary : (f : Formula) (T U : States) → AreContrary T U → (t : State) → S t ≡ true → Contrary (holds_at m f T t) (holds_at m (negation f) U t)
  holds-contrary f T U TU t e =
      chosen (is_state m t) (U t) (is_truth (negation f)) (invariant.within t e) ∙ TU t e ∙ sym (ap not (chosen (is_state m t) (T t) (is_truth f) (invariant.within t e)))

  contrary : (f : Formula) (bound : List Name) → IsClosed bound f → (V W : Valuation) → AreContrarySets bound V W → (c : Assignment) → AreContrary (satisfying m V c f) (satisfying m W c (negation f))
  contrary (Formula.Truth b) bound p V W h c s e = refl
  contrary (Formula.Data x) bound p V W h c s e = refl
  contrary (Formula.Named X) bound p V W h c s e = h X p s e
  contrary (Formula.Not f) bound p V W h c s e = ap not (contrary f bound p V W h c s e)
  contrary (Formula.And f g) bound p V W h c s e =
      contrary-and (satisfying m V c f s) (satisfying m V c g s) (satisfying m W c (negation f) s)
      (satisfying m W c (negation g) s) (contrary f bound p.0 V W h c s e) (contrary g bound p.1 V W h c s e)
  contrary (Formula.Or f g) bound p V W h c s e =
      contrary-or (satisfying m V c f s) (satisfying m V c g s) (satisfying m W c (negation f) s)
      (satisfying m W c (negation g) s) (contrary f bound p.0 V W h c s e) (contrary g bound p.1 V W h c s e)
  contrary (Formula.Implies f g) bound p V W h c s e =
      contrary-or (not (satisfying m V c f s)) (satisfying m V c g s) (not (satisfying m W c (negation f) s)) (satisfying m W c (negation g) s)
      (ap not (contrary f bound p.0 V W h c s e)) (contrary g bound p.1 V W h c s e)
  contrary (Formula.Box A f) bound p V W h c s e =
      contrary-all S (holds_at m f (satisfying m V c f)) (holds_at m (negation f) (satisfying m W c (negation f)))
      (holds-contrary f (satisfying m V c f) (satisfying m W c (negation f)) (contrary f bound p V W h c)) (successors m c A s) (stays c A s e)
  contrary (Formula.Diamond A f) bound p V W h c s e =
      contrary-any S (holds_at m f (satisfying m V c f)) (holds_at m (negation f) (satisfying m W c (negation f)))
      (holds-contrary f (satisfying m V c f) (satisfying m W c (negation f)) (contrary f bound p V W h c)) (successors m c A s) (stays c A s e)
  contrary (Formula.Fixpoint sign X f) bound p V W h c s e =
      iterates-contrary (λ T. satisfying m (with_set V X T) c f) (λ U. satisfying m (with_set W X U) c (negation f))
      (λ T U TU. contrary f (X ∷ bound) p (with_set V X T) (with_set W X U) (with_set-contrary bound V W h X T U TU) c) sign (state_count m) s e
  contrary (Formula.Quantified q xs f) bound p V W h c s e =
      contrary-quantified (data_of m) q xs (λ d. satisfying m V d f s) (λ d. satisfying m W d (negation f) s) (λ d. contrary f bound p V W h d s e) c

  pub one : (f : Formula) → IsClosed [] f →
      (is_state m (initial_state m) && satisfying m no_sets [] (negation f) (initial_state m)) ≡ not (is_state m (initial_state m) && satisfying m no_sets [] f (initial_state m))
  one f closed =
      let s = initial_state m in
      let here = invariant.within s invariant.initial in
      ap (λ b. b && satisfying m no_sets [] (negation f) s) here ∙ contrary f [] closed no_sets no_sets (λ X e. absurd (true≢false (sym e))) [] s invariant.initial
      ∙ sym (ap (λ b. not (b && satisfying m no_sets [] f s)) here)

pub one_without_cuts : OneWithoutCuts
one_without_cuts m f S closed invariant = one m S invariant f closed
