-- In a well-typed specification, each call of a normal form has an argument for each parameter.
use Rattle.std.proofs.Common.{◌≡◌, ℕ, suc, ◌+◌, Bool, true, false, cond, not, ◌||◌, if◌then◌else◌, List, [], ◌∷◌, map, length, Option, Some, None, refl, sym, ap, ◌∙◌, arith}
use Rattle.std.specs.List.{slice_get}
use Rattle.std.proofs.lemmas.List.{length-map}
use Rattle.pb_sorts.specs.declared.carrier.Carrier.{Carrier}
use Rattle.pb_sorts.specs.Carrier.{values_of}
use Rattle.pb_sorts.specs.Layout as layout
use Rattle.pb_text_tree.specs.declared.operator.Quantifier.{Quantifier}
use Rattle.pb_text_meaning.specs.Syntax as syntax
use Rattle.pb_text_meaning.specs.Syntax.{Name, same_name, Variable, Operator, Terms, Equation, Spec}
use Rattle.pb_text_meaning.specs.Sorts.{carrier_of}
use Rattle.pb_text_meaning.specs.Formula.{carriers_of, equation_named}
use Rattle.pb_typing_values.specs.Environment.{all_carriers}
use Rattle.pb_typing_rules.specs.Scope.{Scope, bound}
use Rattle.pb_typing_rules.specs.Formula.{count, IsCalled, IsProper}
use Rattle.pb_typing_rules.specs.WellTyped.{parameter_scope}
use Rattle.pb_normal.specs.Expansion.{has_quantifier, connected, expanded_term, expanded}
use Rattle.pb_normal.specs.Normal.{Term, Argument, Formula}
use Rattle.pb_normal.specs.Normalisation.{Slotting, unslotted, with_slot, with_slots, slotted, width, signed_test, signed_quantifier, each, arguments, place_of, call, normal}
use Rattle.pb_normal.specs.Equations.{normal_equation}
use Rattle.pb_assembler_scheme.specs.Correct.{IsFullCall, HasFullCalls}

length-arguments : (spec : Spec) (c : Slotting) (scope : Scope) (es : Terms) → length (arguments spec c scope es) ≡ count es
length-arguments spec c scope Terms.NoTerms = refl
length-arguments spec c scope (Terms.Then x xs) = ap suc (length-arguments spec c scope xs)

module _ (spec : Spec) (callees : List (List Carrier)) (same : layout.carriers_of callees ≡ all_carriers spec) where
  abbrev Full : Formula → Type 0
  Full f = HasFullCalls callees f

  each-full : (m : Quantifier) (xs : List Variable) (c : Slotting) (n : ℕ) (body : Slotting → ℕ → Formula) → ((d : Slotting) (k : ℕ) → Full (body d k)) → Full (each spec m xs c n body)
  each-full m [] c n body h = h c n
  each-full m (x ∷ xs) c n body h = each-full m xs (with_slot x.name n c) (suc n) body h

  test-full : (even : Bool) (x : Term) → Full (signed_test even x)
  test-full true x = tt
  test-full false x = tt

  -- ---- data

  -- under each number of negations, in each scope
  abbrev IsFull : syntax.Formula → Type 0
  IsFull f = (even : Bool) (scope : Scope) (c : Slotting) (n : ℕ) → Full (normal spec even c scope n f)

  data-full : (x : syntax.Term) → IsFull (syntax.Formula.Val x)
  data-full x even scope c n = test-full even (slotted spec c x)

  choose-full : (b : Bool) (f g : syntax.Formula) → IsFull f → IsFull g → IsFull (if b then f else g)
  choose-full true f g h k = h
  choose-full false f g h k = k

  connected-full : (o : Operator) (f g : syntax.Formula) (x : syntax.Term) → IsFull f → IsFull g → IsFull (connected o f g (syntax.Formula.Val x))
  connected-full Operator.And f g x p q even scope c n = (p even scope c n, q even scope c (n + width f))
  connected-full Operator.Or f g x p q even scope c n = (p even scope c n, q even scope c (n + width f))
  connected-full Operator.Implies f g x p q even scope c n = (p (not even) scope c n, q even scope c (n + width f))
  connected-full o f g x p q even scope c n = data-full x even scope c n

  term-full : (x : syntax.Term) → IsFull (expanded_term x)
  term-full (syntax.Term.Truth b) = data-full (syntax.Term.Truth b)
  term-full (syntax.Term.Number n) = data-full (syntax.Term.Number n)
  term-full (syntax.Term.Named x) = data-full (syntax.Term.Named x)
  term-full (syntax.Term.Not x) =
      choose-full (has_quantifier x) (syntax.Formula.Not (expanded_term x)) (syntax.Formula.Val (syntax.Term.Not x)) (λ even. term-full x (not even)) (data-full (syntax.Term.Not x))
  term-full (syntax.Term.Negative x) = data-full (syntax.Term.Negative x)
  term-full (syntax.Term.Binary o x y) =
      choose-full (has_quantifier x || has_quantifier y)
      (connected o (expanded_term x) (expanded_term y) (syntax.Formula.Val (syntax.Term.Binary o x y)))
      (syntax.Formula.Val (syntax.Term.Binary o x y))
      (connected-full o (expanded_term x) (expanded_term y) (syntax.Term.Binary o x y) (term-full x) (term-full y)) (data-full (syntax.Term.Binary o x y))
  term-full (syntax.Term.Apply f xs) = data-full (syntax.Term.Apply f xs)
  term-full (syntax.Term.Quantified q xs x) = λ even scope c n.
      each-full (signed_quantifier q even) xs c n (λ d m. normal spec even d (bound spec xs scope) m (expanded_term x)) (λ d m. term-full x even (bound spec xs scope) d m)

  -- ---- calls

  -- the place of an equation with so many parameters, the places beginning at n
  abbrev Takes : List (List Carrier) → ℕ → ℕ → Option ℕ → Type 0
  Takes ds n args None = Unit {0}
  Takes ds n args (Some k) = (b : ℕ) × (k ≡ n + b) × ((xs : List Argument) → length xs ≡ args → IsFullCall (slice_get ds b) xs)

  takes-next : (d : List Carrier) (ds : List (List Carrier)) (n args : ℕ) (o : Option ℕ) → Takes ds (suc n) args o → Takes (d ∷ ds) n args o
  takes-next d ds n args None h = tt
  takes-next d ds n args (Some k) h = let p = h.1 in (suc h.0, omega (arith, p), h.2)

  finds-full : (scope : Scope) (es : Terms) (ds : List (List Carrier)) (E : List Equation) (n : ℕ) (x : Name)
      → map (λ (parameters : List Carrier). map values_of parameters) ds ≡ map (λ (X : Equation). carriers_of spec X.parameters) E
      → IsCalled spec scope es (equation_named E x) → Takes ds n (count es) (place_of n E x)
  finds-full scope es ds [] n x e h = tt
  finds-full scope es [] (X ∷ E) n x e h = cc
  finds-full scope es (d ∷ ds) (X ∷ E) n x e h = by (same_name X.name x) h (λ k. finds-full scope es ds E (suc n) x (cc) k)
    where
      first : map values_of d ≡ carriers_of spec X.parameters
      first = cc

      by : (b : Bool) → IsCalled spec scope es (cond b (Some X) (equation_named E x))
          → (IsCalled spec scope es (equation_named E x) → Takes ds (suc n) (count es) (place_of (suc n) E x))
          → Takes (d ∷ ds) n (count es) (if b then Some n else place_of (suc n) E x)
      by true k later =
          let long : length d ≡ length X.parameters = sym (length-map d values_of) ∙ ap length first ∙ length-map X.parameters (λ (y : Variable). carrier_of spec y.sort) in
          let args = k.0 in
          (0, omega arith, λ xs l. omega (arith, long, args, l))
      by false k later = takes-next d ds n (count es) (place_of (suc n) E x) (later k)

  call-full : (args : ℕ) (xs : List Argument) (o : Option ℕ) → length xs ≡ args → Takes callees 0 args o → Full (call o xs)
  call-full args xs None l h = tt
  call-full args xs (Some k) l h =
      let p = h.1 in
      let at : k ≡ h.0 = omega (arith, p) in
      rw at (h.2 xs l)

  -- ---- formulas

  formula-full : (even : Bool) (scope : Scope) (f : syntax.Formula) → IsProper spec even scope f → (c : Slotting) (n : ℕ) → Full (normal spec even c scope n (expanded f))
  formula-full even scope (syntax.Formula.Truth b) h c n = test-full even (Term.Truth b)
  formula-full even scope (syntax.Formula.Val x) h c n = term-full x even scope c n
  formula-full even scope (syntax.Formula.Not f) h c n = formula-full (not even) scope f h c n
  formula-full even scope (syntax.Formula.And f g) h c n = (formula-full even scope f h.0 c n, formula-full even scope g h.1 c (n + width (expanded f)))
  formula-full even scope (syntax.Formula.Or f g) h c n = (formula-full even scope f h.0 c n, formula-full even scope g h.1 c (n + width (expanded f)))
  formula-full even scope (syntax.Formula.Implies f g) h c n = (formula-full (not even) scope f h.0 c n, formula-full even scope g h.1 c (n + width (expanded f)))
  formula-full even scope (syntax.Formula.Quantified q xs f) h c n =
      each-full (signed_quantifier q even) xs c n (λ d m. normal spec even d (bound spec xs scope) m (expanded f)) (λ d m. formula-full even (bound spec xs scope) f h.1 d m)
  formula-full even scope (syntax.Formula.Call x es) h c n =
      call-full (count es) (arguments spec c scope es) (place_of 0 spec.equations x) (length-arguments spec c scope es) (finds-full scope es callees spec.equations 0 x same h.1)

  pub equation-full : (X : Equation) → IsProper spec true (parameter_scope spec X) X.right → HasFullCalls callees (normal_equation spec X)
  equation-full X proper = formula-full true (parameter_scope spec X) X.right proper (with_slots X.parameters 0 unslotted) (length X.parameters)
