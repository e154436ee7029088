-- In a well-typed specification the numbers, slots, callees and enumerators of each normal form are bounded.
use Rattle.std.proofs.Common.{◌≡◌, ℕ, zero, suc, ◌+◌, ◌<◌, ◌≤◌, ◌^◌, Bool, true, false, not, ◌&&◌, ◌||◌, if◌then◌else◌, List, [], ◌∷◌, length, Option, Some, None, pos, int_le, refl, arith}
use Rattle.std.specs.Prelude.{nat_lt, nat_le}
use Rattle.std.specs.List.{All}
use Rattle.std.proofs.lemmas.Int.{ints}
use Rattle.std.proofs.lemmas.Bool.{and_from, and_parts, le-leb, lt-ltb}
use Rattle.pb_base_values.specs.Interval.{is_included, singleton, literals}
use Rattle.pb_base_values.proofs.Ends.{le_true}
use Rattle.pb_text_tree.specs.declared.operator.Quantifier.{Quantifier}
use Rattle.pb_text_meaning.specs.Syntax as syntax
use Rattle.pb_text_meaning.specs.Syntax.{Name, same_name, Variable, Operator, Terms, Equation, Spec}
use Rattle.pb_text_meaning.specs.declared.function.NamedFunction.{NamedFunction}
use Rattle.pb_text_meaning.specs.declared.function.NamedFunction.TheVariants.{If, Succ, Pred, Abs, Max, Min, Pos2Nat, Pos2Int, Nat2Int}
use Rattle.pb_text_meaning.specs.Functions.{named_function}
use Rattle.pb_text_meaning.specs.Formula.{equation_named}
use Rattle.pb_typing_declarations.specs.Enumerators.{Position, enumerator_of, recogniser_of}
use Rattle.pb_typing_rules.specs.Shapes.{kind_of}
use Rattle.pb_typing_rules.specs.Scope.{Scope, bound}
use Rattle.pb_typing_rules.specs.Term.{passes, IsTyped, AreTyped}
use Rattle.pb_typing_rules.specs.Formula.{IsProper}
use Rattle.pb_typing_rules.specs.WellTyped.{parameter_scope, AreProper, IsWellTyped}
use Rattle.pb_typing_rules.proofs.Contained.{called_typed}
use Rattle.pb_normal.specs.Expansion.{has_quantifier, connected, expanded_term, expanded}
use Rattle.pb_normal.specs.Normal.{Term, Argument, Formula}
use Rattle.pb_normal.specs.Normalisation as made
use Rattle.pb_normal.specs.Normalisation.{Slotting, unslotted, with_slot, with_slots, applied_to_one, applied_to_two, applied_to_three, applied, slotted, slotted_all, width, signed_test, signed_quantifier, each, arguments, place_of, call, normal}
use Rattle.pb_normal.specs.Loops.{equation_loops}
use Rattle.pb_normal.specs.Plain.{AreFree}
use Rattle.pb_normal.specs.Structs.{has_enumerator, struct_counts}
use Rattle.pb_normal.specs.Bounds.{FormulaBounds, is_bounded, are_bounded, is_bounded_formula, bounds_with, HasBounds}
use Rattle.pb_typing.proofs.LoopCount.{length-loops}
use Rattle.pb_typing_tree.proofs.Parameters.{free-parameters}
use Rattle.pb_normal.proofs.Structs.{enumerator_known, recogniser_known, position-there}
use Rattle.pb_typing_tree.proofs.Truth.{more-free, free-with}

-- a literal is at most 2^62
literal-bounded : (n : ℕ) → is_included (singleton (pos n)) literals ≡ true → nat_le n (2 ^ 62) ≡ true
literal-bounded n e =
    let high = le_true (pos n) literals.high (and_parts (int_le literals.low (pos n)) (int_le (pos n) literals.high) e).1 in
    le-leb n (2 ^ 62) (omega (arith, ints, high))

-- the place of an equation is one of the list's
place-below : (n : ℕ) (E : List Equation) (x : Name) (k : ℕ) → place_of n E x ≡ Some k → k < n + length E
place-below n [] x k e = cc
place-below n (X ∷ E) x k e = by (same_name X.name x) e (place-below (suc n) E x k)
  where
    by : (b : Bool) → (if b then Some n else place_of (suc n) E x) ≡ Some k → (place_of (suc n) E x ≡ Some k → k < suc n + length E) → k < n + length (X ∷ E)
    by true h later = let same : n ≡ k = cc in omega (arith, same)
    by false h later = let l = later h in omega (arith, l)

module _ (spec : Spec) (slots : ℕ) where
  abbrev bounds : FormulaBounds
  bounds = bounds_with spec slots

  abbrev Fits : Term → Type 0
  Fits x = is_bounded bounds x ≡ true

  abbrev FormulaFits : Formula → Type 0
  FormulaFits f = is_bounded_formula bounds f ≡ true

  -- ---- data

  zero-fits : Fits (Term.Number 0)
  zero-fits = le-leb 0 (2 ^ 62) (omega arith)

  enumerator-fits : (x : Name) (o : Option Position) → enumerator_of spec x ≡ o → Fits (made.term_of_enumerator o)
  enumerator-fits x None e = zero-fits
  enumerator-fits x (Some p) e = position-there (struct_counts spec.sorts) p (enumerator_known spec x p e)

  named-fits : (o : Option ℕ) (x : Name) → ((s : ℕ) → o ≡ Some s → s < slots) → Fits (made.term_of_name spec o x)
  named-fits None x h = enumerator-fits x (enumerator_of spec x) refl
  named-fits (Some s) x h = lt-ltb s slots (h s refl)

  recognised-fits : (f : Name) (o : Option Position) (x : Term) → recogniser_of spec f ≡ o → Fits x → Fits (made.recognised o x)
  recognised-fits f None x e h = refl
  recognised-fits f (Some p) x e h =
      and_from (has_enumerator (struct_counts spec.sorts) p.sort p.place) (is_bounded bounds x) (position-there (struct_counts spec.sorts) p (recogniser_known spec f p e)) h

  one-fits : (f : Name) (g : Option NamedFunction) (x : Term) → Fits x → Fits (applied_to_one spec f g x)
  one-fits f (Some If) x h = zero-fits
  one-fits f (Some Succ) x h = h
  one-fits f (Some Pred) x h = h
  one-fits f (Some Abs) x h = h
  one-fits f (Some Max) x h = zero-fits
  one-fits f (Some Min) x h = zero-fits
  one-fits f (Some Pos2Nat) x h = h
  one-fits f (Some Pos2Int) x h = h
  one-fits f (Some Nat2Int) x h = h
  one-fits f None x h = recognised-fits f (recogniser_of spec f) x refl h

  two-fits : (g : Option NamedFunction) (x y : Term) → Fits x → Fits y → Fits (applied_to_two g x y)
  two-fits (Some If) x y h k = zero-fits
  two-fits (Some Succ) x y h k = zero-fits
  two-fits (Some Pred) x y h k = zero-fits
  two-fits (Some Abs) x y h k = zero-fits
  two-fits (Some Max) x y h k = and_from (is_bounded bounds x) (is_bounded bounds y) h k
  two-fits (Some Min) x y h k = and_from (is_bounded bounds x) (is_bounded bounds y) h k
  two-fits (Some Pos2Nat) x y h k = zero-fits
  two-fits (Some Pos2Int) x y h k = zero-fits
  two-fits (Some Nat2Int) x y h k = zero-fits
  two-fits None x y h k = zero-fits

  three-fits : (g : Option NamedFunction) (x y z : Term) → Fits x → Fits y → Fits z → Fits (applied_to_three g x y z)
  three-fits (Some If) x y z h k l = and_from (is_bounded bounds x) (is_bounded bounds y && is_bounded bounds z) h (and_from (is_bounded bounds y) (is_bounded bounds z) k l)
  three-fits (Some Succ) x y z h k l = zero-fits
  three-fits (Some Pred) x y z h k l = zero-fits
  three-fits (Some Abs) x y z h k l = zero-fits
  three-fits (Some Max) x y z h k l = zero-fits
  three-fits (Some Min) x y z h k l = zero-fits
  three-fits (Some Pos2Nat) x y z h k l = zero-fits
  three-fits (Some Pos2Int) x y z h k l = zero-fits
  three-fits (Some Nat2Int) x y z h k l = zero-fits
  three-fits None x y z h k l = zero-fits

  abbrev AllFit : List Term → Type 0
  AllFit [] = Unit {0}
  AllFit (x ∷ xs) = Fits x × AllFit xs

  applied-fits : (f : Name) (xs : List Term) → AllFit xs → Fits (applied spec f xs)
  applied-fits f [] h = zero-fits
  applied-fits f (x ∷ []) h = one-fits f (named_function f) x h.0
  applied-fits f (x ∷ y ∷ []) h = two-fits (named_function f) x y h.0 h.1.0
  applied-fits f (x ∷ y ∷ z ∷ []) h = three-fits (named_function f) x y z h.0 h.1.0 h.1.1.0
  applied-fits f (x ∷ y ∷ z ∷ w ∷ ws) h = zero-fits

  -- the slots of the variables in scope are among all
  abbrev InScope : Slotting → Type 0
  InScope c = AreFree c slots

  mutual
    slotted-fits : (c : Slotting) → InScope c → (stands : Bool) (scope : Scope) (x : syntax.Term) → IsTyped spec stands scope x → Fits (slotted spec c x)
    slotted-fits c inside stands scope (syntax.Term.Truth b) h = refl
    slotted-fits c inside stands scope (syntax.Term.Number n) h = literal-bounded n h
    slotted-fits c inside stands scope (syntax.Term.Named x) h = named-fits (c x) x (inside x)
    slotted-fits c inside stands scope (syntax.Term.Not x) h = slotted-fits c inside stands scope x h.0
    slotted-fits c inside stands scope (syntax.Term.Negative x) h = slotted-fits c inside false scope x h.0
    slotted-fits c inside stands scope (syntax.Term.Binary o x y) h =
        and_from (is_bounded bounds (slotted spec c x)) (is_bounded bounds (slotted spec c y))
        (slotted-fits c inside (passes (kind_of o) stands) scope x h.0) (slotted-fits c inside (passes (kind_of o) stands) scope y h.1)
    slotted-fits c inside stands scope (syntax.Term.Apply f xs) h = applied-fits f (slotted_all spec c xs) (slotted-all-fit c inside scope xs h.0)
    slotted-fits c inside stands scope (syntax.Term.Quantified q xs x) h = refl

    slotted-all-fit : (c : Slotting) → InScope c → (scope : Scope) (xs : Terms) → AreTyped spec scope xs → AllFit (slotted_all spec c xs)
    slotted-all-fit c inside scope Terms.NoTerms h = tt
    slotted-all-fit c inside scope (Terms.Then x xs) h = (slotted-fits c inside false scope x h.0, slotted-all-fit c inside scope xs h.1)

  -- ---- bodies

  -- a body that takes so many slots, wherever they are among all
  abbrev Takes : ℕ → (Slotting → ℕ → Formula) → Type 0
  Takes w body = (c : Slotting) (n : ℕ) → AreFree c n → n + w ≤ slots → FormulaFits (body c n)

  -- under each number of negations, in each scope
  abbrev IsFitting : syntax.Formula → Type 0
  IsFitting f = (even : Bool) (scope : Scope) → Takes (width f) (λ c n. normal spec even c scope n f)

  test-fits : (even : Bool) (x : Term) → Fits x → FormulaFits (signed_test even x)
  test-fits true x h = h
  test-fits false x h = h

  each-fits : (m : Quantifier) (xs : List Variable) (w : ℕ) (body : Slotting → ℕ → Formula) → Takes w body → Takes (length xs + w) (λ c n. each spec m xs c n body)
  each-fits m [] w body h c n free room = h c n free (omega (arith, room))
  each-fits m (x ∷ xs) w body h c n free room =
      and_from (nat_lt n slots) (is_bounded_formula bounds (each spec m xs (with_slot x.name n c) (suc n) body)) (lt-ltb n slots (omega (arith, room)))
      (each-fits m xs w body h (with_slot x.name n c) (suc n) (free-with c n x.name free) (omega (arith, room)))

  data-fits : (stands : Bool) (typed : Scope) (x : syntax.Term) → IsTyped spec stands typed x → IsFitting (syntax.Formula.Val x)
  data-fits stands typed x h even scope c n free room =
      test-fits even (slotted spec c x) (slotted-fits c (more-free c n slots (omega (arith, room)) free) stands typed x h)

  join-fits : (v w : ℕ) (f g : Slotting → ℕ → Formula) (c : Slotting) (n : ℕ) → Takes v f → Takes w g → AreFree c n → n + (v + w) ≤ slots
      → is_bounded_formula bounds (f c n) && is_bounded_formula bounds (g c (n + v)) ≡ true
  join-fits v w f g c n h k free room =
      and_from (is_bounded_formula bounds (f c n)) (is_bounded_formula bounds (g c (n + v))) (h c n free (omega (arith, room)))
      (k c (n + v) (more-free c n (n + v) (omega arith) free) (omega (arith, room)))

  choose-fitting : (b : Bool) (f g : syntax.Formula) → IsFitting f → IsFitting g → IsFitting (if b then f else g)
  choose-fitting true f g h k = h
  choose-fitting false f g h k = k

  connected-fits : (o : Operator) (f g : syntax.Formula) (x : syntax.Term) → IsFitting f → IsFitting g → IsFitting (syntax.Formula.Val x) → IsFitting (connected o f g (syntax.Formula.Val x))
  connected-fits Operator.And f g x h k l even scope c n free room =
      join-fits (width f) (width g) (λ d m. normal spec even d scope m f) (λ d m. normal spec even d scope m g) c n (h even scope) (k even scope) free room
  connected-fits Operator.Or f g x h k l even scope c n free room =
      join-fits (width f) (width g) (λ d m. normal spec even d scope m f) (λ d m. normal spec even d scope m g) c n (h even scope) (k even scope) free room
  connected-fits Operator.Implies f g x h k l even scope c n free room =
      join-fits (width f) (width g) (λ d m. normal spec (not even) d scope m f) (λ d m. normal spec even d scope m g) c n (h (not even) scope) (k even scope) free room
  connected-fits o f g x h k l even scope c n free room = l even scope c n free room

  term-fits : (stands : Bool) (typed : Scope) (x : syntax.Term) → IsTyped spec stands typed x → IsFitting (expanded_term x)
  term-fits stands typed (syntax.Term.Truth b) h = data-fits stands typed (syntax.Term.Truth b) h
  term-fits stands typed (syntax.Term.Number n) h = data-fits stands typed (syntax.Term.Number n) h
  term-fits stands typed (syntax.Term.Named x) h = data-fits stands typed (syntax.Term.Named x) h
  term-fits stands typed (syntax.Term.Not x) h =
      choose-fitting (has_quantifier x) (syntax.Formula.Not (expanded_term x)) (syntax.Formula.Val (syntax.Term.Not x))
      (λ even. term-fits stands typed x h.0 (not even)) (data-fits stands typed (syntax.Term.Not x) h)
  term-fits stands typed (syntax.Term.Negative x) h = data-fits stands typed (syntax.Term.Negative x) h
  term-fits stands typed (syntax.Term.Binary o x y) h =
      choose-fitting (has_quantifier x || has_quantifier y)
      (connected o (expanded_term x) (expanded_term y) (syntax.Formula.Val (syntax.Term.Binary o x y)))
      (syntax.Formula.Val (syntax.Term.Binary o x y))
      (connected-fits o (expanded_term x) (expanded_term y) (syntax.Term.Binary o x y)
      (term-fits (passes (kind_of o) stands) typed x h.0) (term-fits (passes (kind_of o) stands) typed y h.1) (data-fits stands typed (syntax.Term.Binary o x y) h))
      (data-fits stands typed (syntax.Term.Binary o x y) h)
  term-fits stands typed (syntax.Term.Apply f xs) h = data-fits stands typed (syntax.Term.Apply f xs) h
  term-fits stands typed (syntax.Term.Quantified q xs x) h = λ even scope.
      each-fits (signed_quantifier q even) xs (width (expanded_term x))
      (λ d m. normal spec even d (bound spec xs scope) m (expanded_term x))
      (term-fits stands (bound spec xs typed) x h.2 even (bound spec xs scope))

  -- ---- calls

  arguments-fit : (c : Slotting) → InScope c → (scope typed : Scope) (es : Terms) → AreTyped spec typed es → are_bounded bounds (arguments spec c scope es) ≡ true
  arguments-fit c inside scope typed Terms.NoTerms h = refl
  arguments-fit c inside scope typed (Terms.Then x xs) h =
      and_from (is_bounded bounds (slotted spec c x)) (are_bounded bounds (arguments spec c scope xs)) (slotted-fits c inside false typed x h.0) (arguments-fit c inside scope typed xs h.1)

  call-fits : (x : Name) (o : Option ℕ) (es : List Argument) → place_of 0 spec.equations x ≡ o → are_bounded bounds es ≡ true → FormulaFits (call o es)
  call-fits x None es e h = refl
  call-fits x (Some k) es e h =
      and_from (nat_lt k (length spec.equations)) (are_bounded bounds es)
      (lt-ltb k (length spec.equations) (let l = place-below 0 spec.equations x k e in omega (arith, l))) h

  -- ---- formulas

  formula-fits : (f : syntax.Formula) (proper : Bool) (typed : Scope) → IsProper spec proper typed f → IsFitting (expanded f)
  formula-fits (syntax.Formula.Truth b) proper typed h even scope c n free room = test-fits even (Term.Truth b) refl
  formula-fits (syntax.Formula.Val x) proper typed h even scope c n free room = term-fits true typed x h.0 even scope c n free room
  formula-fits (syntax.Formula.Not f) proper typed h even scope c n free room = formula-fits f (not proper) typed h (not even) scope c n free room
  formula-fits (syntax.Formula.And f g) proper typed h even scope c n free room =
      join-fits (width (expanded f)) (width (expanded g)) (λ d m. normal spec even d scope m (expanded f)) (λ d m. normal spec even d scope m (expanded g)) c n
      (formula-fits f proper typed h.0 even scope) (formula-fits g proper typed h.1 even scope) free room
  formula-fits (syntax.Formula.Or f g) proper typed h even scope c n free room =
      join-fits (width (expanded f)) (width (expanded g)) (λ d m. normal spec even d scope m (expanded f)) (λ d m. normal spec even d scope m (expanded g)) c n
      (formula-fits f proper typed h.0 even scope) (formula-fits g proper typed h.1 even scope) free room
  formula-fits (syntax.Formula.Implies f g) proper typed h even scope c n free room =
      join-fits (width (expanded f)) (width (expanded g)) (λ d m. normal spec (not even) d scope m (expanded f)) (λ d m. normal spec even d scope m (expanded g)) c n
      (formula-fits f (not proper) typed h.0 (not even) scope) (formula-fits g proper typed h.1 even scope) free room
  formula-fits (syntax.Formula.Quantified q xs f) proper typed h even scope c n free room =
      each-fits (signed_quantifier q even) xs (width (expanded f)) (λ d m. normal spec even d (bound spec xs scope) m (expanded f))
      (formula-fits f proper (bound spec xs typed) h.1 even (bound spec xs scope)) c n free room
  formula-fits (syntax.Formula.Call x es) proper typed h even scope c n free room =
      call-fits x (place_of 0 spec.equations x) (arguments spec c scope es) refl
      (arguments-fit c (more-free c n slots (omega (arith, room)) free) scope typed es (called_typed spec typed es (equation_named spec.equations x) h.1))

equation-bounded : (spec : Spec) (X : Equation) → IsProper spec true (parameter_scope spec X) X.right → HasBounds spec X
equation-bounded spec X proper =
    let count = length-loops spec (expanded X.right) in
    formula-fits spec (length X.parameters + length (equation_loops spec X)) X.right true (parameter_scope spec X) proper true (parameter_scope spec X)
    (with_slots X.parameters 0 unslotted) (length X.parameters) (free-parameters X.parameters) (omega (arith, count))

rights-bounded : (spec : Spec) (E : List Equation) → AreProper spec E → All (HasBounds spec) E
rights-bounded spec [] proper k d below = absurd (omega arith)
rights-bounded spec (X ∷ E) proper zero d below = equation-bounded spec X proper.0
rights-bounded spec (X ∷ E) proper (suc k) d below = rights-bounded spec E proper.1 k d (omega arith)

pub equations-bounded : (spec : Spec) → IsWellTyped spec → All (HasBounds spec) spec.equations
equations-bounded spec h = rights-bounded spec spec.equations h.rights
