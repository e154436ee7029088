-- The formula of a modality calls its operand's instance at each successor.
use Rattle.std.proofs.Common.{◌≡◌, ℕ, Bool, true, false, true≢false, not, ◌&&◌, ◌||◌, List, [], ◌∷◌, map, inl, inr, refl, sym, ap, ◌∙◌, subst, arith}
use Rattle.std.specs.Prelude.{Contains, filter}
use Rattle.std.proofs.Math.Path.{fun_ext}
use Rattle.std.proofs.lemmas.Bool.{and_parts}
use Rattle.pb_base_values.specs.Carrier.{Carrier, Tuple, Value, of_bool, tuples}
use Rattle.pb_text_tree.specs.declared.operator.Connective.TheVariants.{And, Or, Implies}
use Rattle.pb_text_tree.specs.declared.operator.Quantifier.{Quantifier}
use Rattle.pb_text_tree.specs.declared.operator.Quantifier.TheVariants.{Forall, Exists}
use Rattle.pb_text_meaning.proofs.Truths.{is_true-of_bool}
use Rattle.pb_text_meaning.specs.Syntax.{Name, Variable, Operator, Term, Terms, Equation, Spec}
use Rattle.pb_text_meaning.specs.Syntax as text
use Rattle.pb_text_meaning.specs.Value.{Assignment, is_true, value, values}
use Rattle.pb_text_meaning.specs.Formula.{Instance, carriers_of}
use Rattle.pb_text_meaning.specs.Meaning.{assigned}
use Rattle.pb_model_meaning.specs.Syntax.{Step, StepSet, Model}
use Rattle.pb_model_meaning.specs.Steps.{State, data_of, is_state, in_scope, is_enabled, state_after, next_state, successors_by, has_step, steps_in, successors}
use Rattle.pb_model_translation.specs.Translation.{Callee, Numbered, behind, call, over, next_terms}
use Rattle.pb_model_translation.specs.Apart.{AreNew, HasNamesApart, StepsAreNew}
use Rattle.pb_model_translation.specs.Nested.{instance_of}
use Rattle.pb_model_translation.proofs.Data.{other, carriers-same, value-same, Assigns, assigned-assigns, assigns-under, next_terms-values, state_after-none}
use Rattle.pb_model_translation.proofs.Guards.{joiner}
use Rattle.pb_model_translation.proofs.RightSides.{step_formula}
use Rattle.pb_typing_tree.specs.Expansion.{expanded}
use Rattle.pb_typing_calls.specs.Calls.{is_test}
use Rattle.pb_typing_calls.specs.declared.side.Side.TheVariants.{Left, Right}
use Rattle.pb_model_range_laws.specs.Calls.{Calls}
use Rattle.pb_model_runs.proofs.Elements.{either_of, unfiltered, passes, in-some, of-mapped}
use Rattle.pb_model_range_laws.proofs.Tests.{undecided, joined, step-test, steps-test}

-- ---- guards

-- a truth, or its negation
abbrev signed : Bool → Bool → Bool
signed false b = b
signed true b = not b

signed-not : (negated b : Bool) → signed (not negated) b ≡ signed negated (is_true (of_bool (not b)))
signed-not true true = refl
signed-not true false = refl
signed-not false true = refl
signed-not false false = refl

neither : (x y : Bool) → not (is_true (of_bool (x || y))) ≡ true → (not x ≡ true) × (not y ≡ true)
neither true y e = absurd (true≢false (sym e))
neither false true e = absurd (true≢false (sym e))
neither false false e = (refl, refl)

first-alone : (x y : Bool) → not (is_true (of_bool (not x || y))) ≡ true → (x ≡ true) × (not y ≡ true)
first-alone true true e = absurd (true≢false (sym e))
first-alone true false e = (refl, refl)
first-alone false y e = absurd (true≢false (sym e))

pub and-false : (b : Bool) → (b && false) ≡ false
and-false true = refl
and-false false = refl

module _ (spec : Spec) (a : Assignment) (j : Instance) where
  abbrev test : Term → Bool
  test x = is_true (value spec a x)

  leaf-called : (q : Quantifier) (x : Term) (f : text.Formula) → test x ≡ true → Calls spec a f j → Calls spec a (joiner q (text.Formula.Val x) f) j
  leaf-called Forall x f t h = inr (ap (λ b. is_test (expanded (text.Formula.Val x)) && not b) t ∙ and-false (is_test (expanded (text.Formula.Val x))), h)
  leaf-called Exists x f t h = inr (ap (λ b. is_test (expanded (text.Formula.Val x)) && not b) t ∙ and-false (is_test (expanded (text.Formula.Val x))), h)

  -- behind a guard that is true
  behind-called : (q : Quantifier) (negated : Bool) (x : Term) (f : text.Formula) → signed negated (test x) ≡ true → Calls spec a f j
      → Calls spec a (behind (joiner q) negated x f) j
  behind-called q negated (Term.Not x) f t h = behind-called q (not negated) x f (signed-not negated (test x) ∙ t) h
  behind-called q false (Term.Binary Operator.And x y) f t h =
      let parts = and_parts (test x) (test y) (sym (is_true-of_bool (test x && test y)) ∙ t) in
      behind-called q false x (behind (joiner q) false y f) parts.0 (behind-called q false y f parts.1 h)
  behind-called q true (Term.Binary Operator.Or x y) f t h =
      let parts = neither (test x) (test y) t in
      behind-called q true x (behind (joiner q) true y f) parts.0 (behind-called q true y f parts.1 h)
  behind-called q true (Term.Binary Operator.Implies x y) f t h =
      let parts = first-alone (test x) (test y) t in
      behind-called q false x (behind (joiner q) true y f) parts.0 (behind-called q true y f parts.1 h)
  behind-called q false x f t h = leaf-called q x f t h
  behind-called q true x f t h = leaf-called q (Term.Not x) f (is_true-of_bool (not (test x)) ∙ t) h

over-called : (spec : Spec) (q : Quantifier) (xs : List Variable) (f : text.Formula) (a : Assignment) (j : Instance) (vs : Tuple) →
    Contains (tuples (carriers_of spec xs)) vs → Calls spec (assigned xs vs a) f j → Calls spec a (over q xs f) j
over-called spec q [] f a j vs among h = h
over-called spec q (x ∷ xs) f a j vs among h = (vs, among, h)

-- a step's variables have no name of a state variable
new-of : (xs : List Variable) (steps : List Step) (a : Step) → StepsAreNew xs steps → Contains steps a → AreNew xs a.variables
new-of xs [] a new h = absurd (omega (arith, h.1))
new-of xs (b ∷ steps) a new h = elim (either_of b steps a h) [
  | inl e ↦ subst (λ (d : Step). AreNew xs d.variables) e new.0
  | inr later ↦ new-of xs steps a new.1 later
]

module _ (m : Model) (names : ℕ → Name) (E : List Equation) (x0 : Name) (es : Terms) (apart : HasNamesApart m) where
  abbrev spec : Spec
  spec = other (data_of m) E x0 es

  abbrev at : State → Assignment
  at s = assigned m.variables s []

  state-assigns : (s : State) → is_state m s ≡ true → Assigns (at s) m.variables s
  state-assigns s e = assigned-assigns (data_of m) m.variables s [] apart.variables e

  -- a call at the state itself has the state's values
  pub values-here : (s : State) → is_state m s ≡ true → values spec (at s) (next_terms [] m.variables) ≡ s
  values-here s e =
      let here = state-assigns s e in
      next_terms-values spec [] (at s) m.variables s here ∙ state_after-none (value spec (at s)) (at s) m.variables s here

  values-after : (s : State) → is_state m s ≡ true → (a : Step) → AreNew m.variables a.variables → (own : Tuple) →
      values spec (in_scope m s a own) (next_terms a.assignments m.variables) ≡ next_state m s a own
  values-after s e a new own =
      let scope = in_scope m s a own in
      next_terms-values spec a.assignments scope m.variables s (assigns-under m.variables s (at s) a.variables own new (state-assigns s e)) ∙
      ap (λ (evaluate : Term → Value). state_after evaluate a.assignments m.variables s) (fun_ext (λ x. value-same (data_of m) E x0 es x scope))

  body-called : (q : Quantifier) (k : ℕ) (s : State) → is_state m s ≡ true → (a : Step) → AreNew m.variables a.variables → (own : Tuple) →
      is_enabled m s a own ≡ true → (t : State) → next_state m s a own ≡ t →
      Calls spec (in_scope m s a own) (behind (joiner q) false a.guard (call m names (Numbered k) a.assignments)) (instance_of names k t)
  body-called q k s e a new own enabled t next =
      let scope = in_scope m s a own in
      let guard : is_true (value spec scope a.guard) ≡ true = ap is_true (value-same (data_of m) E x0 es a.guard scope) ∙ enabled in
      behind-called spec scope (instance_of names k t) q false a.guard (call m names (Numbered k) a.assignments) guard
      (ap (instance_of names k) (values-after s e a new own ∙ next))

  step-called : (q : Quantifier) (k : ℕ) (s : State) → is_state m s ≡ true → (a : Step) → AreNew m.variables a.variables → (own : Tuple) →
      Contains (tuples (carriers_of (data_of m) a.variables)) own → is_enabled m s a own ≡ true → (t : State) → next_state m s a own ≡ t →
      Calls spec (at s) (step_formula m names q (Numbered k) a) (instance_of names k t)
  step-called q k s e a new own among enabled t next =
      by q (subst (λ (cs : List Carrier). Contains (tuples cs) own) (sym (carriers-same (data_of m) E x0 es a.variables)) among)
      (λ r. body-called r k s e a new own enabled t next)
    where
      by : (r : Quantifier) → Contains (tuples (carriers_of spec a.variables)) own →
          ((r : Quantifier) → Calls spec (in_scope m s a own) (behind (joiner r) false a.guard (call m names (Numbered k) a.assignments)) (instance_of names k t)) →
          Calls spec (at s) (step_formula m names r (Numbered k) a) (instance_of names k t)
      by Forall chosen h = over-called spec Forall a.variables (behind (joiner Forall) false a.guard (call m names (Numbered k) a.assignments)) (at s) (instance_of names k t) own chosen (h Forall)
      by Exists chosen h = over-called spec Exists a.variables (behind (joiner Exists) false a.guard (call m names (Numbered k) a.assignments)) (at s) (instance_of names k t) own chosen (h Exists)

  one-called : (q : Quantifier) (c : Callee) (a : Assignment) (j : Instance) (steps : List Step) (x : Step) → Contains steps x →
      Calls spec a (step_formula m names q c x) j → Calls spec a (joined q (map (step_formula m names q c) steps)) j
  one-called q c a j [] x among h = absurd (omega (arith, among.1))
  one-called Forall c a j (b ∷ []) x among h = elim (either_of b [] x among) [
    | inl e ↦ subst (λ (d : Step). Calls spec a (step_formula m names Forall c d) j) (sym e) h
    | inr later ↦ absurd (omega (arith, later.1))
  ]
  one-called Exists c a j (b ∷ []) x among h = elim (either_of b [] x among) [
    | inl e ↦ subst (λ (d : Step). Calls spec a (step_formula m names Exists c d) j) (sym e) h
    | inr later ↦ absurd (omega (arith, later.1))
  ]
  one-called Forall c a j (b ∷ d ∷ steps) x among h = elim (either_of b (d ∷ steps) x among) [
    | inl e ↦ inl (
      undecided spec a And Right (joined Forall (map (step_formula m names Forall c) (d ∷ steps))) (steps-test m names Forall c d steps),
      subst (λ (y : Step). Calls spec a (step_formula m names Forall c y) j) (sym e) h,
    )
    | inr later ↦ inr (undecided spec a And Left (step_formula m names Forall c b) (step-test m names Forall c b), one-called Forall c a j (d ∷ steps) x later h)
  ]
  one-called Exists c a j (b ∷ d ∷ steps) x among h = elim (either_of b (d ∷ steps) x among) [
    | inl e ↦ inl (
      undecided spec a Or Right (joined Exists (map (step_formula m names Exists c) (d ∷ steps))) (steps-test m names Exists c d steps),
      subst (λ (y : Step). Calls spec a (step_formula m names Exists c y) j) (sym e) h,
    )
    | inr later ↦ inr (undecided spec a Or Left (step_formula m names Exists c b) (step-test m names Exists c b), one-called Exists c a j (d ∷ steps) x later h)
  ]

  pub successor-called : (q : Quantifier) (k : ℕ) (A : StepSet) (s : State) → is_state m s ≡ true → (t : State) → Contains (successors m A s) t →
      Calls spec (at s) (joined q (map (step_formula m names q (Numbered k)) (steps_in m A))) (instance_of names k t)
  successor-called q k A s e t h =
      let step = in-some (successors_by m s) (steps_in m A) t h in
      let a = step.0 in
      let all = tuples (carriers_of (data_of m) a.variables) in
      let found = of-mapped (next_state m s a) (filter (is_enabled m s a) all) t step.2 in
      let new = new-of m.variables m.steps a apart.steps (unfiltered (λ (b : Step). has_step A b.name) m.steps a step.1) in
      one-called q (Numbered k) (at s) (instance_of names k t) (steps_in m A) a step.1
      (step-called q k s e a new found.0 (unfiltered (is_enabled m s a) all found.0 found.1) (passes (is_enabled m s a) all found.0 found.1) t found.2)
