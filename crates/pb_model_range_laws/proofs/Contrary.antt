-- At each state whose instances are reached, the model satisfies a formula or its negation.
use Rattle.std.proofs.Common.{◌≡◌, ℕ, zero, suc, ◌+◌, Bool, true, false, true≢false, not, ◌&&◌, ◌||◌, if◌then◌else◌, List, [], ◌∷◌, map, inl, inr, refl, sym, ap, ◌∙◌, subst}
use Rattle.std.specs.Prelude.{Contains, flat_map}
use Rattle.std.specs.List.{list_any, list_all}
use Rattle.std.proofs.lemmas.Bool.{and_parts, or_right}
use Rattle.std.proofs.lemmas.Slice.Eq.{bytes_eq-Decides}
use Rattle.pb_fixpoint.specs.declared.Sign.{Sign}
use Rattle.pb_fixpoint.specs.declared.Sign.TheVariants.{Mu, Nu}
use Rattle.pb_fixpoint.specs.Solution.{empty, iterate, start}
use Rattle.pb_text_tree.specs.declared.operator.Connective.{Connective}
use Rattle.pb_text_tree.specs.declared.operator.Connective.TheVariants.{And, Or, Implies}
use Rattle.pb_text_tree.specs.declared.operator.Quantifier.TheVariants.{Forall, Exists}
use Rattle.pb_text_meaning.proofs.Truths.{is_true-of_bool}
use Rattle.pb_text_meaning.specs.Syntax.{Name, same_name, Term, Terms, Equation, Spec}
use Rattle.pb_text_meaning.specs.Syntax as text
use Rattle.pb_text_meaning.specs.Value.{Assignment, is_true, values}
use Rattle.pb_text_meaning.specs.Formula.{Instance, truth}
use Rattle.pb_text_meaning.specs.Meaning.{assigned}
use Rattle.pb_model_meaning.specs.Syntax.{Step, Formula, Model}
use Rattle.pb_model_meaning.specs.Steps.{State, data_of, is_state, state_count, successors_by, steps_in, successors}
use Rattle.pb_model_meaning.specs.Satisfaction.{States, Valuation, with_set, is_truth, holds_at, satisfying}
use Rattle.pb_model_meaning.proofs.Same.{chosen}
use Rattle.pb_model_translation.specs.Translation.{has_equation, next_if, equation_count, Callee, Constant, Numbered, FixpointScope, callee_of, operand_callee, conjunction, disjunction, call, after_each, after_some, right_side, equation}
use Rattle.pb_model_translation.specs.Apart.{HasNamesApart}
use Rattle.pb_model_translation.specs.Nested.{instance_of}
use Rattle.pb_model_translation.proofs.Data.{other, value-same}
use Rattle.pb_model_translation.proofs.RightSides.{step_formula}
use Rattle.pb_typing_tree.specs.Expansion.{expanded}
use Rattle.pb_typing_calls.specs.Calls.{decides, is_test}
use Rattle.pb_typing_calls.specs.declared.side.Side.{Side}
use Rattle.pb_typing_calls.specs.declared.side.Side.TheVariants.{Left, Right}
use Rattle.pb_model_range_laws.specs.Calls.{Calls, OneCalls, test_decides}
use Rattle.pb_model_range_laws.specs.Negation.{IsNegatedTest, IsNegated, IsNegation, IsOtherSign, IsBound}
use Rattle.pb_model_runs.proofs.Elements.{first_of, later_of}
use Rattle.pb_model_range_laws.proofs.Tests.{tests-call-nothing, joined, steps-test}
use Rattle.pb_model_range_laws.proofs.Called.{and-false, values-here, successor-called}

-- ---- truth values

abbrev Opposite : Bool → Bool → Type 0
Opposite x u = u ≡ not x

-- an operand that decides is one, and where the other doesn't decide so is it
record Sides (left right x y u v : Bool) : Type 0 where
  first : left ≡ true → Opposite x u
  second : right ≡ true → Opposite y v
  beside_second : right ≡ false → Opposite x u
  beside_first : left ≡ false → Opposite y v

both-and : (left right x y u v : Bool) → (left ≡ true → not x ≡ true) → (right ≡ true → not y ≡ true) → Sides left right x y u v → (u || v) ≡ not (x && y)
both-and true right true y u v l r s = absurd (true≢false (sym (l refl)))
both-and true right false y u v l r s = ap (λ b. b || v) (s.first refl)
both-and false true x true u v l r s = absurd (true≢false (sym (r refl)))
both-and false true true false u v l r s = or_right u v (s.second refl)
both-and false true false false u v l r s = or_right u v (s.second refl)
both-and false false true y u v l r s = ap (λ b. b || v) (s.beside_second refl) ∙ s.beside_first refl
both-and false false false y u v l r s = ap (λ b. b || v) (s.beside_second refl)

not-not : (b : Bool) → not (not b) ≡ b
not-not true = refl
not-not false = refl

both-or : (left right x y u v : Bool) → (left ≡ true → x ≡ true) → (right ≡ true → y ≡ true) → Sides left right x y u v → (u && v) ≡ not (x || y)
both-or true right false y u v l r s = absurd (true≢false (sym (l refl)))
both-or true right true y u v l r s = ap (λ b. b && v) (s.first refl)
both-or false true x false u v l r s = absurd (true≢false (sym (r refl)))
both-or false true true true u v l r s = ap (λ b. u && b) (s.second refl) ∙ and-false u
both-or false true false true u v l r s = ap (λ b. u && b) (s.second refl) ∙ and-false u
both-or false false false y u v l r s = ap (λ b. b && v) (s.beside_second refl) ∙ s.beside_first refl
both-or false false true y u v l r s = ap (λ b. b && v) (s.beside_second refl)

module _ {X : Type 0} (p r : X → Bool) where
  some-of-all : (xs : List X) → ((x : X) → Contains xs x → Opposite (p x) (r x)) → Opposite (list_all p xs) (list_any r xs)
  some-of-all [] h = refl
  some-of-all (x ∷ xs) h =
      pair (p x) (list_all p xs) (r x) (list_any r xs) (h x (first_of x xs)) (some-of-all xs (λ y later. h y (later_of x xs y later)))
    where
      pair : (a b c d : Bool) → Opposite a c → Opposite b d → (c || d) ≡ not (a && b)
      pair true b c d e f = ap (λ z. z || d) e ∙ f
      pair false b c d e f = ap (λ z. z || d) e

  all-of-some : (xs : List X) → ((x : X) → Contains xs x → Opposite (p x) (r x)) → Opposite (list_any p xs) (list_all r xs)
  all-of-some [] h = refl
  all-of-some (x ∷ xs) h =
      pair (p x) (list_any p xs) (r x) (list_all r xs) (h x (first_of x xs)) (all-of-some xs (λ y later. h y (later_of x xs y later)))
    where
      pair : (a b c d : Bool) → Opposite a c → Opposite b d → (c && d) ≡ not (a || b)
      pair true b c d e f = ap (λ z. z && d) e
      pair false b c d e f = ap (λ z. z && d) e ∙ f

-- ---- variables in scope

abbrev pub scope_names : FixpointScope → List Name
scope_names [] = []
scope_names ((Y, n) ∷ scope) = Y ∷ scope_names scope

-- a variable that is bound has an equation
bound-callee : (scope : FixpointScope) (X : Name) → list_any (λ Y. same_name Y X) (scope_names scope) ≡ true → (k : ℕ) × (callee_of scope X ≡ Numbered k)
bound-callee [] X e = absurd (true≢false (sym e))
bound-callee ((Y, n) ∷ scope) X e = by (same_name Y X) (bound-callee scope X) e
  where
    by : (b : Bool) → (list_any (λ Y. same_name Y X) (scope_names scope) ≡ true → (k : ℕ) × (callee_of scope X ≡ Numbered k)) →
        (b || list_any (λ Y. same_name Y X) (scope_names scope)) ≡ true → (k : ℕ) × ((if b then Numbered n else callee_of scope X) ≡ Numbered k)
    by true later e = (n, refl)
    by false later e = later e

-- the text has the equations of a formula
module _ (m : Model) (names : ℕ → Name) (E : List Equation) where
  abbrev pub IsThere : Sign → ℕ → text.Formula → Type 0
  IsThere sign n right = Contains E (equation m names sign n right)

  abbrev pub HasEquations : FixpointScope → ℕ → Formula → Type 0
  HasEquations scope n (Formula.Truth b) = Unit {0}
  HasEquations scope n (Formula.Data x) = Unit {0}
  HasEquations scope n (Formula.Named X) = Unit {0}
  HasEquations scope n (Formula.Not f) = HasEquations scope n f
  HasEquations scope n (Formula.And f g) = HasEquations scope n f × HasEquations scope (n + equation_count f) g
  HasEquations scope n (Formula.Or f g) = HasEquations scope n f × HasEquations scope (n + equation_count f) g
  HasEquations scope n (Formula.Implies f g) = HasEquations scope n f × HasEquations scope (n + equation_count f) g
  HasEquations scope n (Formula.Box A f) =
      (has_equation f ≡ true → (sign : Sign) × IsThere sign n (right_side m names scope (next_if (has_equation f) n) f)) × HasEquations scope (next_if (has_equation f) n) f
  HasEquations scope n (Formula.Diamond A f) =
      (has_equation f ≡ true → (sign : Sign) × IsThere sign n (right_side m names scope (next_if (has_equation f) n) f)) × HasEquations scope (next_if (has_equation f) n) f
  HasEquations scope n (Formula.Fixpoint sign X f) =
      IsThere sign n (right_side m names ((X, n) ∷ scope) (suc n) f) × HasEquations ((X, n) ∷ scope) (suc n) f

-- a text of equations over the states of m, of which S has each instance that is called from one of S
module _ (m : Model) (names : ℕ → Name) (E : List Equation) (x0 : Name) (es : Terms) (apart : HasNamesApart m) (S : Instance → Type 0)
    (within : (i : Instance) → S i → is_state m i.values ≡ true)
    (called : (X : Equation) → Contains E X → (i j : Instance) → same_name X.name i.name ≡ true → S i →
    Calls (other (data_of m) E x0 es) (assigned X.parameters i.values []) X.right j → S j) where
  abbrev spec : Spec
  spec = other (data_of m) E x0 es

  abbrev at : State → Assignment
  at s = assigned m.variables s []

  -- the sets of a variable are opposite at the states whose instances are in S
  abbrev AreOpposite : ℕ → States → States → Type 0
  AreOpposite k T U = (s : State) → S (instance_of names k s) → Opposite (T s) (U s)

  abbrev AreOppositeFor : Callee → States → States → Type 0
  AreOppositeFor (Constant b) T U = Unit {0}
  AreOppositeFor (Numbered k) T U = AreOpposite k T U

  abbrev pub AreOppositeSets : FixpointScope → Valuation → Valuation → Type 0
  AreOppositeSets scope V W = (X : Name) → AreOppositeFor (callee_of scope X) (V X) (W X)

  -- what a right side calls is in S
  abbrev CallsWithin : State → text.Formula → Type 0
  CallsWithin s f = (j : Instance) → Calls spec (at s) f j → S j

  abbrev pub Contrary : Formula → Formula → Type 0
  Contrary f g =
      (scope : FixpointScope) (n : ℕ) → HasEquations m names E scope n f → IsBound (scope_names scope) f → (V W : Valuation) → AreOppositeSets scope V W →
      (s : State) → is_state m s ≡ true → CallsWithin s (right_side m names scope n f) → Opposite (satisfying m V f s) (satisfying m W g s)

  -- ---- tests

  steps-of-test : (V : Valuation) (c : Callee) (p : State → Bool) (s : State) (steps : List Step) →
      is_test (expanded (joined Forall (map (step_formula m names Forall c) steps))) ≡ true →
      truth spec (at s) empty (joined Forall (map (step_formula m names Forall c) steps)) ≡ list_all p (flat_map (successors_by m s) steps)
  steps-of-test V c p s [] e = refl
  steps-of-test V c p s (a ∷ steps) e = absurd (true≢false (sym e ∙ steps-test m names Forall c a steps))

  steps-of-some-test : (V : Valuation) (c : Callee) (p : State → Bool) (s : State) (steps : List Step) →
      is_test (expanded (joined Exists (map (step_formula m names Exists c) steps))) ≡ true →
      truth spec (at s) empty (joined Exists (map (step_formula m names Exists c) steps)) ≡ list_any p (flat_map (successors_by m s) steps)
  steps-of-some-test V c p s [] e = refl
  steps-of-some-test V c p s (a ∷ steps) e = absurd (true≢false (sym e ∙ steps-test m names Exists c a steps))

  -- a right side that is one test has the truth of its formula
  test-truth : (f : Formula) (scope : FixpointScope) (n : ℕ) → IsBound (scope_names scope) f → (V : Valuation) (s : State) →
      is_test (expanded (right_side m names scope n f)) ≡ true → truth spec (at s) empty (right_side m names scope n f) ≡ satisfying m V f s
  test-truth (Formula.Truth b) scope n closed V s e = refl
  test-truth (Formula.Data x) scope n closed V s e = ap is_true (value-same (data_of m) E x0 es x (at s))
  test-truth (Formula.Named X) scope n closed V s e =
      let bound = bound-callee scope X closed in
      absurd (true≢false (sym e ∙ ap (λ c. is_test (expanded (call m names c []))) bound.1))
  test-truth (Formula.Not f) scope n closed V s e = ap not (test-truth f scope n closed V s e)
  test-truth (Formula.And f g) scope n closed V s e = absurd (true≢false (sym e))
  test-truth (Formula.Or f g) scope n closed V s e = absurd (true≢false (sym e))
  test-truth (Formula.Implies f g) scope n closed V s e = absurd (true≢false (sym e))
  test-truth (Formula.Box A f) scope n closed V s e = steps-of-test V (operand_callee scope n f) (holds_at m f (satisfying m V f)) s (steps_in m A) e
  test-truth (Formula.Diamond A f) scope n closed V s e = steps-of-some-test V (operand_callee scope n f) (holds_at m f (satisfying m V f)) s (steps_in m A) e
  test-truth (Formula.Fixpoint sign X f) scope n closed V s e = absurd (true≢false (sym e))

  -- ---- connectives

  -- a right side that decides what it is connected to has its formula's truth
  decided : (c : Connective) (side : Side) (f : Formula) (scope : FixpointScope) (n : ℕ) → IsBound (scope_names scope) f → (V : Valuation) (s : State) →
      test_decides spec (at s) c side (right_side m names scope n f) ≡ true → decides c side (satisfying m V f s) ≡ true
  decided c side f scope n closed V s e =
      let F = right_side m names scope n f in
      let parts = and_parts (is_test (expanded F)) (decides c side (truth spec (at s) empty F)) e in
      ap (decides c side) (sym (test-truth f scope n closed V s parts.0)) ∙ parts.1

  -- beside an operand that decides nothing is called, and an operand that decides calls nothing
  sides : (c : Connective) (s : State) (F G : text.Formula) (x y u v : Bool) → (CallsWithin s F → Opposite x u) → (CallsWithin s G → Opposite y v) →
      ((j : Instance) → OneCalls spec (at s) c F G (Calls spec (at s) F j) (Calls spec (at s) G j) → S j) →
      Sides (test_decides spec (at s) c Left F) (test_decides spec (at s) c Right G) x y u v
  sides c s F G x y u v one two calls = record {
    first = λ e. one (λ j k. absurd (tests-call-nothing spec F (at s) j (and_parts (is_test (expanded F)) (decides c Left (truth spec (at s) empty F)) e).0 k));
    second = λ e. two (λ j k. absurd (tests-call-nothing spec G (at s) j (and_parts (is_test (expanded G)) (decides c Right (truth spec (at s) empty G)) e).0 k));
    beside_second = λ e. one (λ j k. calls j (inl (e, k)));
    beside_first = λ e. two (λ j k. calls j (inr (e, k)));
  }

  -- ---- operands of modalities

  inside : (f g : Formula) (V W : Valuation) (t : State) → is_state m t ≡ true → Opposite (satisfying m V f t) (satisfying m W g t) →
      Opposite (holds_at m f (satisfying m V f) t) (holds_at m g (satisfying m W g) t)
  inside f g V W t here e =
      chosen (is_state m t) (satisfying m W g t) (is_truth g) here ∙ e ∙ sym (ap not (chosen (is_state m t) (satisfying m V f t) (is_truth f) here))

  -- an operand with an equation of its own
  own : (f g : Formula) → Contrary f g → (scope : FixpointScope) (n : ℕ) → (sign : Sign) × IsThere m names E sign n (right_side m names scope (suc n) f) →
      HasEquations m names E scope (suc n) f → IsBound (scope_names scope) f → (V W : Valuation) → AreOppositeSets scope V W → (t : State) → S (instance_of names n t) →
      Opposite (holds_at m f (satisfying m V f) t) (holds_at m g (satisfying m W g) t)
  own f g rec scope n there eqs closed V W sets t at-t =
      let here = within (instance_of names n t) at-t in
      inside f g V W t here
      (rec scope (suc n) eqs closed V W sets t here
      (λ j x. called (equation m names there.0 n (right_side m names scope (suc n) f)) there.1 (instance_of names n t) j ((bytes_eq-Decides (names n) (names n)).1 refl) at-t x))

  -- a call of the equation at the state itself
  stays : (n : ℕ) (t : State) → is_state m t ≡ true → S (instance_of names n t) → CallsWithin t (call m names (Numbered n) [])
  stays n t here at-t j x = subst S (sym (ap (instance_of names n) (values-here m names E x0 es apart t here)) ∙ x) at-t

  constant : (b i : Bool) → (if i then not b else not b) ≡ not (if i then b else b)
  constant b true = refl
  constant b false = refl

  operand : (f g : Formula) → IsNegation f g → Contrary f g → (scope : FixpointScope) (n : ℕ) →
      (has_equation f ≡ true → (sign : Sign) × IsThere m names E sign n (right_side m names scope (next_if (has_equation f) n) f)) →
      HasEquations m names E scope (next_if (has_equation f) n) f → IsBound (scope_names scope) f → (V W : Valuation) → AreOppositeSets scope V W →
      (t : State) → ((k : ℕ) → operand_callee scope n f ≡ Numbered k → S (instance_of names k t)) →
      Opposite (holds_at m f (satisfying m V f) t) (holds_at m g (satisfying m W g) t)
  operand (Formula.Truth b) g o rec scope n there eqs closed V W sets t at-t =
      ap (λ h. holds_at m h (satisfying m W h) t) o ∙ constant b (is_state m t)
  operand (Formula.Named X) g o rec scope n there eqs closed V W sets t at-t =
      let bound = bound-callee scope X closed in
      let at-k = at-t bound.0 bound.1 in
      let opposite : AreOpposite bound.0 (V X) (W X) = subst (λ c. AreOppositeFor c (V X) (W X)) bound.1 (sets X) in
      ap (λ h. holds_at m h (satisfying m W h) t) o
      ∙ inside (Formula.Named X) (Formula.Named X) V W t (within (instance_of names bound.0 t) at-k) (opposite t at-k)
  operand (Formula.Fixpoint sign X f) g o rec scope n there eqs closed V W sets t at-t =
      let here = within (instance_of names n t) (at-t n refl) in
      inside (Formula.Fixpoint sign X f) g V W t here (rec scope n eqs closed V W sets t here (stays n t here (at-t n refl)))
  operand (Formula.Data x) g o rec scope n there eqs closed V W sets t at-t = own (Formula.Data x) g rec scope n (there refl) eqs closed V W sets t (at-t n refl)
  operand (Formula.Not f) g o rec scope n there eqs closed V W sets t at-t = own (Formula.Not f) g rec scope n (there refl) eqs closed V W sets t (at-t n refl)
  operand (Formula.And f h) g o rec scope n there eqs closed V W sets t at-t = own (Formula.And f h) g rec scope n (there refl) eqs closed V W sets t (at-t n refl)
  operand (Formula.Or f h) g o rec scope n there eqs closed V W sets t at-t = own (Formula.Or f h) g rec scope n (there refl) eqs closed V W sets t (at-t n refl)
  operand (Formula.Implies f h) g o rec scope n there eqs closed V W sets t at-t = own (Formula.Implies f h) g rec scope n (there refl) eqs closed V W sets t (at-t n refl)
  operand (Formula.Box A f) g o rec scope n there eqs closed V W sets t at-t = own (Formula.Box A f) g rec scope n (there refl) eqs closed V W sets t (at-t n refl)
  operand (Formula.Diamond A f) g o rec scope n there eqs closed V W sets t at-t = own (Formula.Diamond A f) g rec scope n (there refl) eqs closed V W sets t (at-t n refl)

  -- ---- fixpoints

  start-opposite : (sign other : Sign) → IsOtherSign sign other → (n : ℕ) → AreOpposite n (start sign) (start other)
  start-opposite Mu other e n s h = ap (λ (d : Sign). start d s) e
  start-opposite Nu other e n s h = ap (λ (d : Sign). start d s) e

  iterates-opposite : (n : ℕ) (g h : States → States) → ((T U : States) → AreOpposite n T U → AreOpposite n (g T) (h U)) → (sign other : Sign) → IsOtherSign sign other →
      (count : ℕ) → AreOpposite n (iterate count g (start sign)) (iterate count h (start other))
  iterates-opposite n g h step sign other e zero = start-opposite sign other e n
  iterates-opposite n g h step sign other e (suc count) =
      step (iterate count g (start sign)) (iterate count h (start other)) (iterates-opposite n g h step sign other e count)

  one-more : (b : Bool) (n : ℕ) (c : Callee) (T U A B : States) → AreOpposite n T U → AreOppositeFor c A B →
      AreOppositeFor (if b then Numbered n else c) (if b then T else A) (if b then U else B)
  one-more true n c T U A B h k = h
  one-more false n c T U A B h k = k

  sets-opposite : (scope : FixpointScope) (V W : Valuation) → AreOppositeSets scope V W → (X : Name) (n : ℕ) (T U : States) → AreOpposite n T U →
      AreOppositeSets ((X, n) ∷ scope) (with_set V X T) (with_set W X U)
  sets-opposite scope V W sets X n T U h Y = one-more (same_name X Y) n (callee_of scope Y) T U (V Y) (W Y) h (sets Y)

  -- ---- formulas

  test-opposite : (x : Term) (g : Formula) → IsNegatedTest x g → (V W : Valuation) (s : State) → Opposite (satisfying m V (Formula.Data x) s) (satisfying m W g s)
  test-opposite x g (inl e) V W s = ap (λ h. satisfying m W h s) e
  test-opposite x g (inr (b, e, e')) V W s =
      ap (λ h. satisfying m W h s) e' ∙ is_true-of_bool (not b) ∙ sym (ap not (ap (λ y. satisfying m V (Formula.Data y) s) e ∙ is_true-of_bool b))

  negated-opposite : (f g : Formula) (P : Formula → Type 0) → IsNegated f P g → (V W : Valuation) (s : State) →
      ((h : Formula) → P h → Opposite (satisfying m V f s) (satisfying m W h s)) → Opposite (not (satisfying m V f s)) (satisfying m W g s)
  negated-opposite f g P (inl (h, e, o)) V W s rec = ap (λ k. satisfying m W k s) e ∙ ap not (rec h o)
  negated-opposite f g P (inr (b, e, e')) V W s rec =
      ap (λ k. satisfying m W k s) e' ∙ is_true-of_bool b ∙ sym (not-not b) ∙ sym (ap (λ x. not (not x)) (ap (λ k. satisfying m V k s) e ∙ is_true-of_bool b))

  pub contrary : (f g : Formula) → IsNegation f g → Contrary f g
  contrary (Formula.Truth b) g o scope n eqs closed V W sets s here calls = ap (λ h. satisfying m W h s) o
  contrary (Formula.Data x) g o scope n eqs closed V W sets s here calls = test-opposite x g o V W s
  contrary (Formula.Named X) g o scope n eqs closed V W sets s here calls =
      let bound = bound-callee scope X closed in
      let within-s : CallsWithin s (call m names (Numbered bound.0) []) = subst (λ c. CallsWithin s (call m names c [])) bound.1 calls in
      let opposite : AreOpposite bound.0 (V X) (W X) = subst (λ c. AreOppositeFor c (V X) (W X)) bound.1 (sets X) in
      ap (λ h. satisfying m W h s) o
      ∙ opposite s (within-s (instance_of names bound.0 s) (ap (instance_of names bound.0) (values-here m names E x0 es apart s here)))
  contrary (Formula.Not f) g (h, e, o) scope n eqs closed V W sets s here calls =
      ap (λ k. satisfying m W k s) e ∙ ap not (contrary f h o scope n eqs closed V W sets s here calls)
  contrary (Formula.And f₁ f₂) g (h₁, h₂, e, o₁, o₂) scope n eqs closed V W sets s here calls =
      let k = n + equation_count f₁ in
      let F = right_side m names scope n f₁ in
      let G = right_side m names scope k f₂ in
      let one = contrary f₁ h₁ o₁ scope n eqs.0 closed.0 V W sets s here in
      let two = contrary f₂ h₂ o₂ scope k eqs.1 closed.1 V W sets s here in
      ap (λ h. satisfying m W h s) e
      ∙ both-and (test_decides spec (at s) And Left F) (test_decides spec (at s) And Right G) (satisfying m V f₁ s) (satisfying m V f₂ s) (satisfying m W h₁ s) (satisfying m W h₂ s)
      (decided And Left f₁ scope n closed.0 V s) (decided And Right f₂ scope k closed.1 V s)
      (sides And s F G (satisfying m V f₁ s) (satisfying m V f₂ s) (satisfying m W h₁ s) (satisfying m W h₂ s) one two calls)
  contrary (Formula.Or f₁ f₂) g (h₁, h₂, e, o₁, o₂) scope n eqs closed V W sets s here calls =
      let k = n + equation_count f₁ in
      let F = right_side m names scope n f₁ in
      let G = right_side m names scope k f₂ in
      let one = contrary f₁ h₁ o₁ scope n eqs.0 closed.0 V W sets s here in
      let two = contrary f₂ h₂ o₂ scope k eqs.1 closed.1 V W sets s here in
      ap (λ h. satisfying m W h s) e
      ∙ both-or (test_decides spec (at s) Or Left F) (test_decides spec (at s) Or Right G) (satisfying m V f₁ s) (satisfying m V f₂ s) (satisfying m W h₁ s) (satisfying m W h₂ s)
      (decided Or Left f₁ scope n closed.0 V s) (decided Or Right f₂ scope k closed.1 V s)
      (sides Or s F G (satisfying m V f₁ s) (satisfying m V f₂ s) (satisfying m W h₁ s) (satisfying m W h₂ s) one two calls)
  contrary (Formula.Implies f₁ f₂) g (h₁, h₂, e, o₁, o₂) scope n eqs closed V W sets s here calls =
      let k = n + equation_count f₁ in
      let F = right_side m names scope n f₁ in
      let G = right_side m names scope k f₂ in
      let one : CallsWithin s F → Opposite (not (satisfying m V f₁ s)) (satisfying m W h₁ s) =
      λ h. negated-opposite f₁ h₁ (IsNegation f₁) o₁ V W s (λ y i. contrary f₁ y i scope n eqs.0 closed.0 V W sets s here h) in
      let two = contrary f₂ h₂ o₂ scope k eqs.1 closed.1 V W sets s here in
      ap (λ h. satisfying m W h s) e
      ∙ both-or (test_decides spec (at s) Implies Left F) (test_decides spec (at s) Implies Right G) (not (satisfying m V f₁ s)) (satisfying m V f₂ s) (satisfying m W h₁ s) (satisfying m W h₂ s)
      (decided Implies Left f₁ scope n closed.0 V s) (decided Implies Right f₂ scope k closed.1 V s)
      (sides Implies s F G (not (satisfying m V f₁ s)) (satisfying m V f₂ s) (satisfying m W h₁ s) (satisfying m W h₂ s) one two calls)
  contrary (Formula.Box A f) g (h, e, o) scope n eqs closed V W sets s here calls =
      let right : Callee → text.Formula = λ c. conjunction (map (after_each m names c) (steps_in m A)) in
      ap (λ k. satisfying m W k s) e
      ∙ some-of-all (holds_at m f (satisfying m V f)) (holds_at m h (satisfying m W h)) (successors m A s)
      (λ t among. operand f h o (contrary f h o) scope n eqs.0 eqs.1 closed V W sets t
      (λ k c. calls (instance_of names k t)
      (subst (λ d. Calls spec (at s) (right d) (instance_of names k t)) (sym c) (successor-called m names E x0 es apart Forall k A s here t among))))
  contrary (Formula.Diamond A f) g (h, e, o) scope n eqs closed V W sets s here calls =
      let right : Callee → text.Formula = λ c. disjunction (map (after_some m names c) (steps_in m A)) in
      ap (λ k. satisfying m W k s) e
      ∙ all-of-some (holds_at m f (satisfying m V f)) (holds_at m h (satisfying m W h)) (successors m A s)
      (λ t among. operand f h o (contrary f h o) scope n eqs.0 eqs.1 closed V W sets t
      (λ k c. calls (instance_of names k t)
      (subst (λ d. Calls spec (at s) (right d) (instance_of names k t)) (sym c) (successor-called m names E x0 es apart Exists k A s here t among))))
  contrary (Formula.Fixpoint sign X f) g (other_sign, h, opposite, e, o) scope n eqs closed V W sets s here calls =
      let rec = contrary f h o in
      ap (λ k. satisfying m W k s) e
      ∙ iterates-opposite n (λ T. satisfying m (with_set V X T) f) (λ U. satisfying m (with_set W X U) h)
      (λ T U TU t at-t. rec ((X, n) ∷ scope) (suc n) eqs.1 closed (with_set V X T) (with_set W X U) (sets-opposite scope V W sets X n T U TU) t
      (within (instance_of names n t) at-t)
      (λ j x. called (equation m names sign n (right_side m names ((X, n) ∷ scope) (suc n) f)) eqs.0 (instance_of names n t) j
      ((bytes_eq-Decides (names n) (names n)).1 refl) at-t x))
      sign other_sign opposite (state_count m) s (calls (instance_of names n s) (ap (instance_of names n) (values-here m names E x0 es apart s here)))
