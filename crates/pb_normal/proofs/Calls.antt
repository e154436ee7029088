-- In a well-typed specification each call of a normal form has the arguments that its equation takes.
use Rattle.std.proofs.Common.{◌≡◌, ℕ, zero, suc, ◌+◌, Bool, true, false, not, ◌||◌, if◌then◌else◌, List, [], ◌∷◌, length, Option, Some, None, refl, sym, ◌∙◌, ap, subst, arith}
use Rattle.std.specs.List.{All, slice_get}
use Rattle.pb_text_tree.specs.declared.operator.Quantifier.{Quantifier}
use Rattle.pb_text_meaning.specs.Syntax as syntax
use Rattle.pb_text_meaning.specs.Syntax.{Name, same_name, Variable, Operator, Terms, Equation, Spec}
use Rattle.pb_text_meaning.specs.Formula.{equation_named}
use Rattle.pb_typing_rules.specs.Scope.{Scope, bound}
use Rattle.pb_typing_rules.specs.Formula.{count, AreArguments, IsCalled, IsProper}
use Rattle.pb_typing_rules.specs.WellTyped.{parameter_scope, AreProper, IsWellTyped}
use Rattle.pb_normal.specs.Calls.{AreAlike, AreArgumentsOf, HasCalls}
use Rattle.pb_normal.specs.Expansion.{has_quantifier, connected, expanded_term, expanded}
use Rattle.pb_normal.specs.Equations.{normal_equation}
use Rattle.pb_normal.specs.Loops.{variable_shapes}
use Rattle.pb_normal.specs.Normal.{Term, Formula}
use Rattle.pb_normal.specs.Normalisation.{Slotting, unslotted, with_slot, with_slots, slotted, width, signed_test, signed_quantifier, each, arguments, place_of, call, normal}

module _ (spec : Spec) where
  -- ---- arguments

  are-alike : (c : Slotting) (scope : Scope) (es : Terms) (xs : List Variable) → count es ≡ length xs → AreArguments spec scope es xs → AreAlike (arguments spec c scope es) (variable_shapes spec xs)
  are-alike c scope Terms.NoTerms [] l h = tt
  are-alike c scope Terms.NoTerms (x ∷ xs) l h = absurd (omega (arith, l))
  are-alike c scope (Terms.Then e es) [] l h = absurd (omega (arith, l))
  are-alike c scope (Terms.Then e es) (x ∷ xs) l h = (h.1, are-alike c scope es xs (omega (arith, l)) h.2)

  -- the equation at the place that is found is the one of that name
  abbrev IsAt : List Equation → Name → ℕ → Option ℕ → Type 0
  IsAt E x n None = Unit {0}
  IsAt E x n (Some k) = (b : ℕ) × (k ≡ n + b) × (slice_get E b ≡ equation_named E x)

  next-at : (X : Equation) (E : List Equation) (x : Name) (n : ℕ) (o : Option ℕ) → equation_named (X ∷ E) x ≡ equation_named E x → IsAt E x (suc n) o → IsAt (X ∷ E) x n o
  next-at X E x n None same h = tt
  next-at X E x n (Some k) same h = let p = h.1 in (suc h.0, omega (arith, p), h.2 ∙ sym same)

  found-at : (E : List Equation) (x : Name) (n : ℕ) → IsAt E x n (place_of n E x)
  found-at [] x n = tt
  found-at (X ∷ E) x n = by (same_name X.name x) refl (found-at E x (suc n))
    where
      by : (b : Bool) → same_name X.name x ≡ b → IsAt E x (suc n) (place_of (suc n) E x) → IsAt (X ∷ E) x n (if b then Some n else place_of (suc n) E x)
      by true e h = (0, omega arith, sym (ap (λ (t : Bool). if t then Some X else equation_named E x) e))
      by false e h = next-at X E x n (place_of (suc n) E x) (ap (λ (t : Bool). if t then Some X else equation_named E x) e) h

  -- ---- formulas

  abbrev IsFull : (Slotting → ℕ → Formula) → Type 0
  IsFull body = (c : Slotting) (n : ℕ) → HasCalls spec (body c n)

  -- under each number of negations
  abbrev IsFullFormula : Scope → syntax.Formula → Type 0
  IsFullFormula scope f = (even : Bool) → IsFull (λ c n. normal spec even c scope n f)

  test-full : (even : Bool) (x : Term) → HasCalls spec (signed_test even x)
  test-full true x = tt
  test-full false x = tt

  each-full : (m : Quantifier) (xs : List Variable) (body : Slotting → ℕ → Formula) → IsFull body → IsFull (λ c n. each spec m xs c n body)
  each-full m [] body h c n = h c n
  each-full m (x ∷ xs) body h c n = each-full m xs body h (with_slot x.name n c) (suc n)

  data-full : (scope : Scope) (x : syntax.Term) → IsFullFormula scope (syntax.Formula.Val x)
  data-full scope x even c n = test-full even (slotted spec c x)

  choose-full : (scope : Scope) (b : Bool) (f g : syntax.Formula) → IsFullFormula scope f → IsFullFormula scope g → IsFullFormula scope (if b then f else g)
  choose-full scope true f g h k = h
  choose-full scope false f g h k = k

  connected-full : (scope : Scope) (o : Operator) (f g : syntax.Formula) (x : syntax.Term) → IsFullFormula scope f
      → IsFullFormula scope g → IsFullFormula scope (connected o f g (syntax.Formula.Val x))
  connected-full scope Operator.And f g x h k even c n = (h even c n, k even c (n + width f))
  connected-full scope Operator.Or f g x h k even c n = (h even c n, k even c (n + width f))
  connected-full scope Operator.Implies f g x h k even c n = (h (not even) c n, k even c (n + width f))
  connected-full scope o f g x h k even c n = data-full scope x even c n

  term-full : (scope : Scope) (x : syntax.Term) → IsFullFormula scope (expanded_term x)
  term-full scope (syntax.Term.Truth b) = data-full scope (syntax.Term.Truth b)
  term-full scope (syntax.Term.Number n) = data-full scope (syntax.Term.Number n)
  term-full scope (syntax.Term.Named x) = data-full scope (syntax.Term.Named x)
  term-full scope (syntax.Term.Not x) =
      choose-full scope (has_quantifier x) (syntax.Formula.Not (expanded_term x)) (syntax.Formula.Val (syntax.Term.Not x)) (λ even. term-full scope x (not even)) (data-full scope (syntax.Term.Not x))
  term-full scope (syntax.Term.Negative x) = data-full scope (syntax.Term.Negative x)
  term-full scope (syntax.Term.Binary o x y) =
      choose-full scope (has_quantifier x || has_quantifier y)
      (connected o (expanded_term x) (expanded_term y) (syntax.Formula.Val (syntax.Term.Binary o x y)))
      (syntax.Formula.Val (syntax.Term.Binary o x y))
      (connected-full scope o (expanded_term x) (expanded_term y) (syntax.Term.Binary o x y) (term-full scope x) (term-full scope y)) (data-full scope (syntax.Term.Binary o x y))
  term-full scope (syntax.Term.Apply f xs) = data-full scope (syntax.Term.Apply f xs)
  term-full scope (syntax.Term.Quantified q xs x) = λ even.
      each-full (signed_quantifier q even) xs (λ d m. normal spec even d (bound spec xs scope) m (expanded_term x)) (term-full (bound spec xs scope) x even)

  call-full : (c : Slotting) (scope : Scope) (es : Terms) (x : Name) (o : Option ℕ) → IsAt spec.equations x 0 o
      → IsCalled spec scope es (equation_named spec.equations x) → HasCalls spec (call o (arguments spec c scope es))
  call-full c scope es x None h called = tt
  call-full c scope es x (Some k) h called =
      let p = h.1 in
      let at : k ≡ h.0 = omega (arith, p) in
      let there : slice_get spec.equations k ≡ equation_named spec.equations x = ap (slice_get spec.equations) at ∙ h.2 in
      subst (λ (o : Option Equation). AreArgumentsOf spec o (arguments spec c scope es)) (sym there) (by (equation_named spec.equations x) called)
    where
      by : (o : Option Equation) → IsCalled spec scope es o → AreArgumentsOf spec o (arguments spec c scope es)
      by None k = absurd k
      by (Some X) k = are-alike c scope es X.parameters k.0 k.1

  formula-full : (even : Bool) (scope : Scope) (f : syntax.Formula) → IsProper spec even scope f → IsFull (λ c n. normal spec even c scope n (expanded f))
  formula-full even scope (syntax.Formula.Truth b) h c n = test-full even (Term.Truth b)
  formula-full even scope (syntax.Formula.Val x) h c n = term-full scope x even c n
  formula-full even scope (syntax.Formula.Not f) h c n = formula-full (not even) scope f h c n
  formula-full even scope (syntax.Formula.And f g) h c n = (formula-full even scope f h.0 c n, formula-full even scope g h.1 c (n + width (expanded f)))
  formula-full even scope (syntax.Formula.Or f g) h c n = (formula-full even scope f h.0 c n, formula-full even scope g h.1 c (n + width (expanded f)))
  formula-full even scope (syntax.Formula.Implies f g) h c n = (formula-full (not even) scope f h.0 c n, formula-full even scope g h.1 c (n + width (expanded f)))
  formula-full even scope (syntax.Formula.Quantified q xs f) h c n =
      each-full (signed_quantifier q even) xs (λ d m. normal spec even d (bound spec xs scope) m (expanded f)) (formula-full even (bound spec xs scope) f h.1) c n
  formula-full even scope (syntax.Formula.Call x es) h c n = call-full c scope es x (place_of 0 spec.equations x) (found-at spec.equations x 0) h.1

  rights-full : (E : List Equation) → AreProper spec E → All (λ (X : Equation). HasCalls spec (normal_equation spec X)) E
  rights-full [] proper k d below = absurd (omega arith)
  rights-full (X ∷ E) proper zero d below = formula-full true (parameter_scope spec X) X.right proper.0 (with_slots X.parameters 0 unslotted) (length X.parameters)
  rights-full (X ∷ E) proper (suc k) d below = rights-full E proper.1 k d (omega arith)

pub equations-full : (spec : Spec) → IsWellTyped spec → All (λ (X : Equation). HasCalls spec (normal_equation spec X)) spec.equations
equations-full spec h = rights-full spec spec.equations h.rights
