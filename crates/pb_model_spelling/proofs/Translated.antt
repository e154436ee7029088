-- The translation of a model and a formula has words, where the model and the formula have.
use Rattle.std.proofs.Common.{ℕ, suc, ◌+◌, ◌<◌, ◌≤◌, Bool, true, false, not, if◌then◌else◌, cond, List, [], ◌∷◌, map, Some, arith}
use Rattle.std.specs.Prelude.{filter}
use Rattle.pb_fixpoint.specs.declared.Sign.{Sign}
use Rattle.pb_fixpoint.specs.declared.Sign.TheVariants.{Nu}
use Rattle.pb_text_tree.specs.declared.operator.Quantifier.{Quantifier}
use Rattle.pb_text_tree.specs.declared.operator.Quantifier.TheVariants.{Forall, Exists}
use Rattle.pb_text_meaning.specs.Syntax.{Name, same_name, Variable, Operator, Term, Terms, Equation, Spec}
use Rattle.pb_text_meaning.specs.Syntax as text
use Rattle.pb_text_printer.specs.Sayable.{Each, EachOf}
use Rattle.pb_model_meaning.specs.Syntax.{Assignment, Step, Formula, Model}
use Rattle.pb_model_meaning.specs.Steps.{assigned_term, has_step, steps_in}
use Rattle.pb_model_translation.specs.Translation.{has_equation, next_if, equation_count, total_count, Callee, FixpointScope, callee_of, operand_callee, term_or_name, next_terms, conjunction, disjunction, over, behind, call, after_each, after_some, right_side, equation, with_equation, equations, all_equations, translation_by}
use Rattle.pb_model_spelling.specs.Writable.{IsWord, VariableWritable, TermWritable, AllWritable, FormulaWritable, EquationWritable, SpecWritable, ModalWritable, AssignmentWritable, StepWritable, ModelWritable}

each_filtered : {X : Type 0} (P : X → Type 0) (test : X → Bool) (xs : List X) → Each P xs → Each P (filter test xs)
each_filtered P test [] h = tt
each_filtered {X} P test (x ∷ xs) h = go (test x) (each_filtered P test xs h.1)
  where
    go : (b : Bool) → Each P (filter test xs) → Each P (cond b (x ∷ filter test xs) (filter test xs))
    go true rest = (h.0, rest)
    go false rest = rest

each_mapped : {X Y : Type 0} (P : X → Type 0) (Q : Y → Type 0) (f : X → Y) → ((x : X) → P x → Q (f x)) → (xs : List X) → Each P xs → Each Q (map f xs)
each_mapped P Q f one [] h = tt
each_mapped P Q f one (x ∷ xs) h = (one x h.0, each_mapped P Q f one xs h.1)

-- ---- the state after a step

assigned_writable : (assignments : List Assignment) (x : Name) → Each AssignmentWritable assignments → IsWord x → TermWritable (term_or_name (assigned_term assignments x) x)
assigned_writable [] x h w = w
assigned_writable (a ∷ assignments) x h w = go (same_name a.variable x) (assigned_writable assignments x h.1 w)
  where
    go : (b : Bool) → TermWritable (term_or_name (assigned_term assignments x) x) → TermWritable (term_or_name (if b then Some a.term else assigned_term assignments x) x)
    go true rest = h.0
    go false rest = rest

next_writable : (assignments : List Assignment) (vs : List Variable) → Each AssignmentWritable assignments → Each VariableWritable vs → AllWritable (next_terms assignments vs)
next_writable assignments [] h g = tt
next_writable assignments (v ∷ vs) h g = (assigned_writable assignments v.name h g.0.0, next_writable assignments vs h g.1)

-- ---- right sides

conjunction_writable : (fs : List text.Formula) → Each FormulaWritable fs → FormulaWritable (conjunction fs)
conjunction_writable [] h = tt
conjunction_writable (f ∷ []) h = h.0
conjunction_writable (f ∷ g ∷ fs) h = (h.0, conjunction_writable (g ∷ fs) h.1)

disjunction_writable : (fs : List text.Formula) → Each FormulaWritable fs → FormulaWritable (disjunction fs)
disjunction_writable [] h = tt
disjunction_writable (f ∷ []) h = h.0
disjunction_writable (f ∷ g ∷ fs) h = (h.0, disjunction_writable (g ∷ fs) h.1)

over_writable : (q : Quantifier) (vs : List Variable) (f : text.Formula) → Each VariableWritable vs → FormulaWritable f → FormulaWritable (over q vs f)
over_writable q [] f h g = g
over_writable q (v ∷ vs) f h g = (h, g)

behind_writable : (join : text.Formula → text.Formula → text.Formula) → ((f g : text.Formula) → FormulaWritable f → FormulaWritable g → FormulaWritable (join f g))
    → (negated : Bool) (x : Term) (f : text.Formula) → TermWritable x → FormulaWritable f → FormulaWritable (behind join negated x f)
behind_writable join both negated (Term.Not x) f h g = behind_writable join both (not negated) x f h g
behind_writable join both false (Term.Binary Operator.And x y) f h g =
    behind_writable join both false x (behind join false y f) h.0 (behind_writable join both false y f h.1 g)
behind_writable join both true (Term.Binary Operator.Or x y) f h g =
    behind_writable join both true x (behind join true y f) h.0 (behind_writable join both true y f h.1 g)
behind_writable join both true (Term.Binary Operator.Implies x y) f h g =
    behind_writable join both false x (behind join true y f) h.0 (behind_writable join both true y f h.1 g)
behind_writable join both false x f h g = both (text.Formula.Val x) f h g
behind_writable join both true x f h g = both (text.Formula.Val (Term.Not x)) f h g

-- an equation among the first so many is called, or none
abbrev IsWithin : ℕ → Callee → Type 0
IsWithin N (Callee.Constant b) = Unit {0}
IsWithin N (Callee.Numbered n) = n < N

abbrev ScopeWithin : ℕ → FixpointScope → Type 0
ScopeWithin N scope = Each (λ (e : Name × ℕ). e.1 < N) scope

variable_within : (N : ℕ) (scope : FixpointScope) (X : Name) → ScopeWithin N scope → IsWithin N (callee_of scope X)
variable_within N [] X h = tt
variable_within N ((Y, n) ∷ scope) X h = go (same_name Y X) (variable_within N scope X h.1)
  where
    go : (b : Bool) → IsWithin N (callee_of scope X) → IsWithin N (if b then Callee.Numbered n else callee_of scope X)
    go true rest = h.0
    go false rest = rest

operand_within : (N : ℕ) (scope : FixpointScope) (n : ℕ) (f : Formula) → ScopeWithin N scope → n + next_if (has_equation f) (equation_count f) ≤ N → IsWithin N (operand_callee scope n f)
operand_within N scope n (Formula.Truth b) h fits = tt
operand_within N scope n (Formula.Data x) h fits = omega arith
operand_within N scope n (Formula.Named X) h fits = variable_within N scope X h
operand_within N scope n (Formula.Not f) h fits = omega arith
operand_within N scope n (Formula.And f g) h fits = omega arith
operand_within N scope n (Formula.Or f g) h fits = omega arith
operand_within N scope n (Formula.Implies f g) h fits = omega arith
operand_within N scope n (Formula.Box A f) h fits = omega arith
operand_within N scope n (Formula.Diamond A f) h fits = omega arith
operand_within N scope n (Formula.Fixpoint sign X f) h fits = omega arith

module _ (m : Model) (names : ℕ → Name) (N : ℕ) (words : (k : ℕ) → k < N → IsWord (names k)) (model : ModelWritable m) where
  call_writable : (c : Callee) (assignments : List Assignment) → IsWithin N c → Each AssignmentWritable assignments → FormulaWritable (call m names c assignments)
  call_writable (Callee.Constant b) assignments less h = tt
  call_writable (Callee.Numbered n) assignments less h = (words n less, next_writable assignments m.variables h model.variables)

  each_writable : (c : Callee) → IsWithin N c → (a : Step) → StepWritable a → FormulaWritable (after_each m names c a)
  each_writable c less a h =
      over_writable Forall a.variables _ h.0
      (behind_writable text.Formula.Implies (λ f g k l. (k, l)) false a.guard (call m names c a.assignments) h.1 (call_writable c a.assignments less h.2))

  some_writable : (c : Callee) → IsWithin N c → (a : Step) → StepWritable a → FormulaWritable (after_some m names c a)
  some_writable c less a h =
      over_writable Exists a.variables _ h.0
      (behind_writable text.Formula.And (λ f g k l. (k, l)) false a.guard (call m names c a.assignments) h.1 (call_writable c a.assignments less h.2))

  right_writable : (scope : FixpointScope) (n : ℕ) (f : Formula) → ScopeWithin N scope → n + equation_count f ≤ N → ModalWritable f → FormulaWritable (right_side m names scope n f)
  right_writable scope n (Formula.Truth b) s fits h = tt
  right_writable scope n (Formula.Data x) s fits h = h
  right_writable scope n (Formula.Named X) s fits h = call_writable (callee_of scope X) [] (variable_within N scope X s) tt
  right_writable scope n (Formula.Not f) s fits h = right_writable scope n f s fits h
  right_writable scope n (Formula.And f g) s fits h = (right_writable scope n f s (omega arith) h.0, right_writable scope (n + equation_count f) g s (omega arith) h.1)
  right_writable scope n (Formula.Or f g) s fits h = (right_writable scope n f s (omega arith) h.0, right_writable scope (n + equation_count f) g s (omega arith) h.1)
  right_writable scope n (Formula.Implies f g) s fits h = (right_writable scope n f s (omega arith) h.0, right_writable scope (n + equation_count f) g s (omega arith) h.1)
  right_writable scope n (Formula.Box A f) s fits h =
      let c = operand_callee scope n f in
      let steps = each_filtered StepWritable (λ (a : Step). has_step A a.name) m.steps model.steps in
      conjunction_writable _ (each_mapped StepWritable FormulaWritable (after_each m names c) (each_writable c (operand_within N scope n f s fits)) (steps_in m A) steps)
  right_writable scope n (Formula.Diamond A f) s fits h =
      let c = operand_callee scope n f in
      let steps = each_filtered StepWritable (λ (a : Step). has_step A a.name) m.steps model.steps in
      disjunction_writable _ (each_mapped StepWritable FormulaWritable (after_some m names c) (some_writable c (operand_within N scope n f s fits)) (steps_in m A) steps)
  right_writable scope n (Formula.Fixpoint sign X f) s fits h = call_writable (Callee.Numbered n) [] (omega arith) tt

  -- ---- equations

  one_writable : (sign : Sign) (n k : ℕ) (f : Formula) (scope : FixpointScope) → n < N → ScopeWithin N scope → k + equation_count f ≤ N → ModalWritable f
      → EquationWritable (equation m names sign n (right_side m names scope k f))
  one_writable sign n k f scope less s fits h = (words n less, model.variables, right_writable scope k f s fits h)

  -- a modality's operand has an equation of its own or none
  own_writable : (b : Bool) (f : Formula) (scope : FixpointScope) (sign : Sign) (n : ℕ) (E : List Equation) → ScopeWithin N scope → n + next_if b (equation_count f) ≤ N → ModalWritable f
      → ((k : ℕ) → k + equation_count f ≤ N → Each EquationWritable (equations m names scope sign k f E))
      → Each EquationWritable (with_equation m names b (equation m names sign n (right_side m names scope (next_if b n) f)) (equations m names scope sign (next_if b n) f E))
  own_writable true f scope sign n E s fits h rest = (one_writable sign n (suc n) f scope (omega arith) s (omega arith) h, rest (suc n) (omega arith))
  own_writable false f scope sign n E s fits h rest = rest n fits

  equations_writable : (f : Formula) (scope : FixpointScope) (sign : Sign) (n : ℕ) (E : List Equation) → ScopeWithin N scope → n + equation_count f ≤ N → ModalWritable f → Each EquationWritable E
      → Each EquationWritable (equations m names scope sign n f E)
  equations_writable (Formula.Truth b) scope sign n E s fits h e = e
  equations_writable (Formula.Data x) scope sign n E s fits h e = e
  equations_writable (Formula.Named X) scope sign n E s fits h e = e
  equations_writable (Formula.Not f) scope sign n E s fits h e = equations_writable f scope sign n E s fits h e
  equations_writable (Formula.And f g) scope sign n E s fits h e =
      equations_writable f scope sign n _ s (omega arith) h.0 (equations_writable g scope sign (n + equation_count f) E s (omega arith) h.1 e)
  equations_writable (Formula.Or f g) scope sign n E s fits h e =
      equations_writable f scope sign n _ s (omega arith) h.0 (equations_writable g scope sign (n + equation_count f) E s (omega arith) h.1 e)
  equations_writable (Formula.Implies f g) scope sign n E s fits h e =
      equations_writable f scope sign n _ s (omega arith) h.0 (equations_writable g scope sign (n + equation_count f) E s (omega arith) h.1 e)
  equations_writable (Formula.Box A f) scope sign n E s fits h e = own_writable (has_equation f) f scope sign n E s fits h (λ k le. equations_writable f scope sign k E s le h e)
  equations_writable (Formula.Diamond A f) scope sign n E s fits h e = own_writable (has_equation f) f scope sign n E s fits h (λ k le. equations_writable f scope sign k E s le h e)
  equations_writable (Formula.Fixpoint inner X f) scope sign n E s fits h e =
      let less : n < N = omega arith in
      (one_writable inner n (suc n) f ((X, n) ∷ scope) less (less, s) (omega arith) h.1, equations_writable f ((X, n) ∷ scope) inner (suc n) E (less, s) (omega arith) h.1 e)

  -- of a formula that is no fixpoint
  whole_writable : (f : Formula) → suc (equation_count f) ≤ N → ModalWritable f
      → EachOf EquationWritable (equation m names Nu 0 (right_side m names [] 1 f) ∷ equations m names [] Nu 1 f [])
  whole_writable f fits h = (one_writable Nu 0 1 f [] (omega arith) tt (omega arith) h, equations_writable f [] Nu 1 [] tt (omega arith) h tt)

  all_writable : (f : Formula) → total_count f ≤ N → ModalWritable f → EachOf EquationWritable (all_equations m names f)
  all_writable (Formula.Fixpoint sign X f) fits h = equations_writable (Formula.Fixpoint sign X f) [] Nu 0 [] tt (omega arith) h tt
  all_writable (Formula.Truth b) fits h = whole_writable (Formula.Truth b) fits h
  all_writable (Formula.Data x) fits h = whole_writable (Formula.Data x) fits h
  all_writable (Formula.Named X) fits h = whole_writable (Formula.Named X) fits h
  all_writable (Formula.Not f) fits h = whole_writable (Formula.Not f) fits h
  all_writable (Formula.And f g) fits h = whole_writable (Formula.And f g) fits h
  all_writable (Formula.Or f g) fits h = whole_writable (Formula.Or f g) fits h
  all_writable (Formula.Implies f g) fits h = whole_writable (Formula.Implies f g) fits h
  all_writable (Formula.Box A f) fits h = whole_writable (Formula.Box A f) fits h
  all_writable (Formula.Diamond A f) fits h = whole_writable (Formula.Diamond A f) fits h

  -- there is an equation
  some_equation : (f : Formula) → 0 < total_count f
  some_equation (Formula.Truth b) = omega arith
  some_equation (Formula.Data x) = omega arith
  some_equation (Formula.Named X) = omega arith
  some_equation (Formula.Not f) = omega arith
  some_equation (Formula.And f g) = omega arith
  some_equation (Formula.Or f g) = omega arith
  some_equation (Formula.Implies f g) = omega arith
  some_equation (Formula.Box A f) = omega arith
  some_equation (Formula.Diamond A f) = omega arith
  some_equation (Formula.Fixpoint sign X f) = omega arith

  pub translation_writable : (f : Formula) → total_count f ≤ N → ModalWritable f → SpecWritable (translation_by m names f)
  translation_writable f fits h = record {
    sorts = model.sorts;
    ranges = model.ranges;
    equations = all_writable f fits h;
    initial = words 0 (let some = some_equation f in omega arith);
    arguments = model.initial;
  }
