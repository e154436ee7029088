-- Well-typed right sides of a text are well typed over slots, in normal form.
use Rattle.std.proofs.Common.{◌≡◌, ℕ, suc, ◌+◌, ◌<◌, ◌≤◌, Bool, true, false, cond, not, ◌&&◌, ◌||◌, if◌then◌else◌, List, [], ◌∷◌, map, length, Option, Some, None, refl, sym, ap, ◌∙◌, subst, arith, true≢false}
use Rattle.std.specs.Prelude.{slice_get, ◌==◌, All}
use Rattle.std.proofs.lemmas.Bool.{and_parts, eqb-true, eq-eqb, ne_eqb}
use Rattle.pb_sorts.specs.declared.carrier.Carrier.{Carrier}
use Rattle.pb_sorts.specs.declared.carrier.Carrier.TheVariants as carrier
use Rattle.pb_text_tree.specs.declared.operator.Quantifier.{Quantifier}
use Rattle.pb_text_meaning.specs.Syntax as syntax
use Rattle.pb_text_meaning.specs.Syntax.{Name, same_name, Variable, Operator, Terms, Equation, Spec}
use Rattle.pb_text_meaning.specs.Formula.{equation_named}
use Rattle.pb_typing_declarations.specs.Shapes.{Shape, Unknown, Truths, Places, Wholes, sort_shape, end_of}
use Rattle.pb_typing_declarations.specs.Entries.{carrier_shape}
use Rattle.pb_typing_declarations.specs.WellDeclared.{AreVariables, IsDeclared, has_shape}
use Rattle.pb_typing_rules.specs.Shapes.{may_be_truth, may_be_alike, kind_of}
use Rattle.pb_typing_rules.specs.Scope.{Scope, declare, bound}
use Rattle.pb_typing_rules.specs.Term.{shape, passes, IsOperation, IsTyped}
use Rattle.pb_typing_rules.specs.Formula.{count, AreArguments, IsCalled, IsProper}
use Rattle.pb_bytecode_program.specs.Values.{is_inhabited}
use Rattle.pb_bytecode_program.specs.Abstract.{abstraction_of}
use Rattle.pb_bytecode_program.specs.declared.domain.AbstractValue.{AbstractValue}
use Rattle.pb_bytecode_program.specs.declared.domain.AbstractValue.TheVariants as abstract
use Rattle.pb_bytecode_program.specs.Machine.{Program, carrier_of}
use Rattle.pb_bytecode_program.specs.Transfer.{abstract_slot, among}
use Rattle.pb_bytecode_program.specs.Accepted.{CoversEach, CoversLoops}
use Rattle.pb_bytecode_program.proofs.Monotone.{self_covers}
use Rattle.pb_normal.specs.Expansion.{has_quantifier, connected, expanded_term, expanded}
use Rattle.pb_normal.specs.Loops.{variable_shapes}
use Rattle.pb_normal.specs.View.{shapes_of}
use Rattle.pb_normal.specs.Normal.{Term, Formula}
use Rattle.pb_normal.specs.Normalisation.{Slotting, with_slot, slotted, width, signed_test, signed_quantifier, each, arguments, place_of, call, normal}
use Rattle.pb_assembler_scheme.proofs.Numbered.{HasSlots}
use Rattle.pb_assembler_scheme.specs.Made.{struct_counts, parameter_shapes}
use Rattle.pb_assembler_scheme.proofs.Typing.{Typed}
use Rattle.pb_assembler_scheme.proofs.AcceptedFormulas.{known_of, FitsKind, TypedArguments, TypedCall, TypedFormula}
use Rattle.pb_assembler_scheme.proofs.Shapes.{IsDeclaredShape, sort_known, HasCarrier, has_carrier}
use Rattle.pb_assembler_scheme.proofs.TextTerms.{IsKnown, InSlot, fits_truth, term_fits}

pub declared_known : (counts : List ℕ) (s : Shape) → IsDeclaredShape counts s → IsKnown counts s
declared_known counts Unknown d = d
declared_known counts Truths d = tt
declared_known counts (Places s n) d = d.0
declared_known counts (Wholes l h) d = tt

-- an argument of the parameter's kind
fits_kind : (counts : List ℕ) (c : Carrier) (s : Shape) → IsKnown counts s → IsKnown counts (carrier_shape (Some c)) → may_be_alike s (carrier_shape (Some c)) ≡ true → FitsKind c (known_of s)
fits_kind counts carrier.Bool Truths a b e = tt
fits_kind counts (carrier.Enum n) (Places s m) a b e =
    let same : s ≡ n.sort = eqb-true s n.sort e in
    let equal : m ≡ n.count = some_same m n.count (sym a ∙ ap (slice_get counts) same ∙ b) in
    (same, omega arith)
  where
    some_same : (i j : ℕ) → Some i ≡ Some j → i ≡ j
    some_same i j k = cc
fits_kind counts (carrier.Range r) (Wholes l h) a b e = tt
fits_kind counts carrier.Bool Unknown a b e = absurd a
fits_kind counts carrier.Bool (Places s m) a b e = absurd (true≢false (sym e))
fits_kind counts carrier.Bool (Wholes l h) a b e = absurd (true≢false (sym e))
fits_kind counts (carrier.Enum n) Unknown a b e = absurd a
fits_kind counts (carrier.Enum n) Truths a b e = absurd (true≢false (sym e))
fits_kind counts (carrier.Enum n) (Wholes l h) a b e = absurd (true≢false (sym e))
fits_kind counts (carrier.Range r) Unknown a b e = absurd a
fits_kind counts (carrier.Range r) Truths a b e = absurd (true≢false (sym e))
fits_kind counts (carrier.Range r) (Places s m) a b e = absurd (true≢false (sym e))

above_differs : (i n : ℕ) → n < i → (i == n) ≡ false
above_differs i n l = by (i == n) refl
  where
    by : (b : Bool) → (i == n) ≡ b → b ≡ false
    by true e = let same = eqb-true i n e in absurd (omega arith)
    by false e = refl

pub more_slots : (counts : List ℕ) (ls : List (ℕ × AbstractValue)) (ps : List AbstractValue) (n m : ℕ) (o : Option ℕ) (s : Option Shape) → n ≤ m → InSlot counts ls ps n o s → InSlot counts ls ps m o s
more_slots counts ls ps n m None None le h = tt
more_slots counts ls ps n m (Some i) (Some s) le h = (let l = h.0 in omega arith, h.1, h.2)
more_slots counts ls ps n m None (Some s) le h = absurd h
more_slots counts ls ps n m (Some i) None le h = absurd h

pub variable_known : (spec : Spec) → IsDeclared spec → (p : Program) → p.sorts ≡ struct_counts spec.sorts
    → (x : Variable) → has_shape (end_of spec x.sort) ≡ true → IsDeclaredShape p.sorts (sort_shape spec x.sort)
variable_known spec declared p same x e = subst (λ (k : List ℕ). IsDeclaredShape k (sort_shape spec x.sort)) (sym same) (sort_known spec declared x.sort e)

module _ (spec : Spec) (declared : IsDeclared spec) (p : Program) (same : p.sorts ≡ struct_counts spec.sorts) (ps : List AbstractValue) (cp : CoversEach ps ps) where
  abbrev Loops : Type 0
  Loops = List (ℕ × AbstractValue)

  -- the slots below n are those of the names in scope, each known to have its shape; no loop around has another slot
  pub record Agrees (ls : Loops) (scope : Scope) (c : Slotting) (n : ℕ) : Type 0 where
    pub slots : (x : Name) → InSlot p.sorts ls ps n (c x) (scope x)
    pub fresh : (i : ℕ) → n ≤ i → among ls i ≡ false
    pub solid : CoversLoops ls ls

  more : (ls : Loops) (scope : Scope) (c : Slotting) (n m : ℕ) → n ≤ m → Agrees ls scope c n → Agrees ls scope c m
  more ls scope c n m le a = record { slots = λ x. more_slots p.sorts ls ps n m (c x) (scope x) le (a.slots x); fresh = λ i l. a.fresh i (omega arith); solid = a.solid }

  inner_slot : (ls : Loops) (n : ℕ) (v : AbstractValue) (o : Option ℕ) (s : Option Shape) → InSlot p.sorts ls ps n o s → InSlot p.sorts ((n, v) ∷ ls) ps (suc n) o s
  inner_slot ls n v None None h = tt
  inner_slot ls n v (Some i) (Some s) h = (let l = h.0 in omega arith, ap (λ b. cond b (Some v) (abstract_slot ls ps i)) (ne_eqb i n (λ e. omega (arith, e, h.0))) ∙ h.1, h.2)
  inner_slot ls n v None (Some s) h = absurd h
  inner_slot ls n v (Some i) None h = absurd h

  declares : (ls : Loops) (scope : Scope) (c : Slotting) (n : ℕ) (y : Name) (s : Shape) (h : HasCarrier p.sorts (carrier_of p n) s) → IsKnown p.sorts s → Agrees ls scope c n
      → Agrees ((n, abstraction_of h.carrier) ∷ ls) (declare y s scope) (with_slot y n c) (suc n)
  declares ls scope c n y s h known a = record {
    slots = λ x. by x (same_name y x);
    fresh = λ i l. ap (λ b. b || among ls i) (above_differs i n (omega arith)) ∙ a.fresh i (omega arith);
    solid = (refl, self_covers h.carrier h.inhabited, a.solid);
  }
    where
      by : (x : Name) (b : Bool) → InSlot p.sorts ((n, abstraction_of h.carrier) ∷ ls) ps (suc n) (cond b (Some n) (c x)) (cond b (Some s) (scope x))
      by x true = (omega arith, ap (λ b. cond b (Some (abstraction_of h.carrier)) (abstract_slot ls ps n)) (eq-eqb n n refl) ∙ ap Some h.known, known)
      by x false = inner_slot ls n (abstraction_of h.carrier) (c x) (scope x) (a.slots x)

  -- a body that is well typed wherever slots agree with the scope
  abbrev Types : Scope → (Slotting → ℕ → Formula) → Type 0
  Types scope body = (ls : Loops) (c : Slotting) (n : ℕ) → Agrees ls scope c n → HasSlots p (body c n) → TypedFormula p ls ps (body c n)

  -- under each number of negations
  abbrev FormulaTypes : Scope → syntax.Formula → Type 0
  FormulaTypes scope f = (even : Bool) → Types scope (λ c n. normal spec even c scope n f)

  each_types : (m : Quantifier) (xs : List Variable) (scope : Scope) (body : Slotting → ℕ → Formula)
      → All (λ (x : Variable). has_shape (end_of spec x.sort) ≡ true) xs → Types (bound spec xs scope) body
      → Types scope (λ c n. each spec m xs c n body)
  each_types m [] scope body shaped t ls c n a h = t ls c n a h
  each_types m (x ∷ xs) scope body shaped t ls c n a h =
      let shape = sort_shape spec x.sort in
      let d = variable_known spec declared p same x (shaped 0 x (omega arith)) in
      let k = has_carrier p.sorts (carrier_of p n) shape h.0 d in (
        k.carrier,
        k.is,
        a.fresh n (omega arith),
        k.inhabited,
        each_types m xs (declare x.name shape scope) body (λ i y l. shaped (suc i) y (omega arith)) t ((n, abstraction_of k.carrier) ∷ ls) (with_slot x.name n c) (suc n)
            (declares ls scope c n x.name shape k (declared_known p.sorts shape d) a) h.1,
      )

  -- ---- data

  test_types : (ls : Loops) (even : Bool) (t : Term) → Typed p.sorts ls ps t abstract.Bool → TypedFormula p ls ps (signed_test even t)
  test_types ls true t h = h
  test_types ls false t h = (h, refl)

  data_types : (stands : Bool) (scope : Scope) (x : syntax.Term) → IsTyped spec stands scope x → may_be_truth (shape spec scope x) ≡ true → FormulaTypes scope (syntax.Formula.Val x)
  data_types stands scope x h e even ls c n a slots =
      test_types ls even (slotted spec c x)
      (fits_truth p.sorts ls ps a.solid cp (slotted spec c x) (shape spec scope x) (term_fits p.sorts ls ps a.solid cp spec same scope c n a.slots stands x h) e)

  choose_types : (scope : Scope) (b : Bool) (f g : syntax.Formula) → FormulaTypes scope f → FormulaTypes scope g → FormulaTypes scope (if b then f else g)
  choose_types scope true f g h k = h
  choose_types scope false f g h k = k

  connected_types : (scope : Scope) (o : Operator) (f g : syntax.Formula) (x y : syntax.Term) → FormulaTypes scope (syntax.Formula.Val (syntax.Term.Binary o x y))
      → ((may_be_truth (shape spec scope x) && may_be_truth (shape spec scope y)) ≡ true → FormulaTypes scope f × FormulaTypes scope g)
      → IsOperation (kind_of o) (shape spec scope x) (shape spec scope y) → FormulaTypes scope (connected o f g (syntax.Formula.Val (syntax.Term.Binary o x y)))
  connected_types scope Operator.And f g x y d both h even ls c n a slots =
      ((both h.0).0 even ls c n a slots.0, (both h.0).1 even ls c (n + width f) (more ls scope c n (n + width f) (omega arith) a) slots.1)
  connected_types scope Operator.Or f g x y d both h even ls c n a slots =
      ((both h.0).0 even ls c n a slots.0, (both h.0).1 even ls c (n + width f) (more ls scope c n (n + width f) (omega arith) a) slots.1)
  connected_types scope Operator.Implies f g x y d both h even ls c n a slots =
      ((both h.0).0 (not even) ls c n a slots.0, (both h.0).1 even ls c (n + width f) (more ls scope c n (n + width f) (omega arith) a) slots.1)
  connected_types scope o f g x y d both h even ls c n a slots = d even ls c n a slots

  text_types : (stands : Bool) (scope : Scope) (x : syntax.Term) → IsTyped spec stands scope x → may_be_truth (shape spec scope x) ≡ true → FormulaTypes scope (expanded_term x)
  text_types stands scope (syntax.Term.Truth b) h e = data_types stands scope (syntax.Term.Truth b) h e
  text_types stands scope (syntax.Term.Number m) h e = data_types stands scope (syntax.Term.Number m) h e
  text_types stands scope (syntax.Term.Named x) h e = data_types stands scope (syntax.Term.Named x) h e
  text_types stands scope (syntax.Term.Not x) h e =
      choose_types scope (has_quantifier x) (syntax.Formula.Not (expanded_term x))
      (syntax.Formula.Val (syntax.Term.Not x)) (λ even. text_types stands scope x h.0 h.1 (not even))
      (data_types stands scope (syntax.Term.Not x) h e)
  text_types stands scope (syntax.Term.Negative x) h e = data_types stands scope (syntax.Term.Negative x) h e
  text_types stands scope (syntax.Term.Binary o x y) h e =
      choose_types scope (has_quantifier x || has_quantifier y)
      (connected o (expanded_term x) (expanded_term y) (syntax.Formula.Val (syntax.Term.Binary o x y)))
      (syntax.Formula.Val (syntax.Term.Binary o x y))
      (connected_types scope o (expanded_term x) (expanded_term y) x y (data_types stands scope (syntax.Term.Binary o x y) h e)
      (λ w. let two = and_parts (may_be_truth (shape spec scope x)) (may_be_truth (shape spec scope y)) w in
      (text_types (passes (kind_of o) stands) scope x h.0 two.0, text_types (passes (kind_of o) stands) scope y h.1 two.1)) h.2)
      (data_types stands scope (syntax.Term.Binary o x y) h e)
  text_types stands scope (syntax.Term.Apply f xs) h e = data_types stands scope (syntax.Term.Apply f xs) h e
  text_types stands scope (syntax.Term.Quantified q xs x) h e = λ even.
      each_types (signed_quantifier q even) xs scope (λ d m. normal spec even d (bound spec xs scope) m (expanded_term x)) h.1.shaped (text_types stands (bound spec xs scope) x h.2 h.3 even)

  -- ---- calls

  heads : (s t : Shape) (ss ts : List Shape) → s ∷ ss ≡ t ∷ ts → s ≡ t
  heads s t ss ts e = cc

  tails : (s t : Shape) (ss ts : List Shape) → s ∷ ss ≡ t ∷ ts → ss ≡ ts
  tails s t ss ts e = cc

  module _ (ls : Loops) (scope : Scope) (c : Slotting) (n : ℕ) (a : Agrees ls scope c n) where
    arguments_typed : (es : Terms) (xs : List Variable) (cs : List Carrier) → count es ≡ length xs → AreArguments spec scope es xs → All (λ (x : Variable). has_shape (end_of spec x.sort) ≡ true) xs
        → shapes_of cs ≡ variable_shapes spec xs → TypedArguments p.sorts ls ps cs (arguments spec c scope es)
    arguments_typed Terms.NoTerms [] [] l h shaped e = tt
    arguments_typed Terms.NoTerms [] (d ∷ cs) l h shaped e = cc
    arguments_typed Terms.NoTerms (x ∷ xs) cs l h shaped e = absurd (omega arith)
    arguments_typed (Terms.Then t es) [] cs l h shaped e = absurd (omega arith)
    arguments_typed (Terms.Then t es) (x ∷ xs) [] l h shaped e = cc
    arguments_typed (Terms.Then t es) (x ∷ xs) (d ∷ cs) l h shaped e =
        let head = heads (carrier_shape (Some d)) (sort_shape spec x.sort) (shapes_of cs) (variable_shapes spec xs) e in
        let known = variable_known spec declared p same x (shaped 0 x (omega arith)) in
        let f = term_fits p.sorts ls ps a.solid cp spec same scope c n a.slots false t h.0 in
        let k = has_carrier p.sorts (Some d) (sort_shape spec x.sort) head known in (
          f.0,
          fits_kind p.sorts d (shape spec scope t) f.1 (subst (IsKnown p.sorts) (sym head) (declared_known p.sorts (sort_shape spec x.sort) known)) (ap (may_be_alike (shape spec scope t)) head ∙ h.1),
          carrier_inhabited d k,
          arguments_typed es xs cs (omega arith) h.2 (λ i y b. shaped (suc i) y (omega arith)) (tails (carrier_shape (Some d)) (sort_shape spec x.sort) (shapes_of cs) (variable_shapes spec xs) e),
        )
      where
        carrier_inhabited : (d : Carrier) {s : Shape} → HasCarrier p.sorts (Some d) s → is_inhabited d ≡ true
        carrier_inhabited d k = let e = k.is in let same : d ≡ k.carrier = cc in ap is_inhabited same ∙ k.inhabited

    -- at the place of an equation that is found, the call is well typed, the places beginning at b
    abbrev Found : List (List Carrier) → ℕ → Terms → Option ℕ → Type 0
    Found ds b es None = Unit {0}
    Found ds b es (Some k) = (i : ℕ) × (k ≡ b + i) × TypedCall p.sorts ls ps (slice_get ds i) (arguments spec c scope es)

    found_next : (d : List Carrier) (ds : List (List Carrier)) (b : ℕ) (es : Terms) (o : Option ℕ) → Found ds (suc b) es o → Found (d ∷ ds) b es o
    found_next d ds b es None h = tt
    found_next d ds b es (Some k) h = let e = h.1 in (suc h.0, omega (arith, e), h.2)

    finds : (es : Terms) (ds : List (List Carrier)) (E : List Equation) (b : ℕ) (x : Name) → map shapes_of ds ≡ parameter_shapes spec E → All (λ (X : Equation). AreVariables spec X.parameters) E
        → IsCalled spec scope es (equation_named E x) → Found ds b es (place_of b E x)
    finds es ds [] b x e shaped h = tt
    finds es [] (X ∷ E) b x e shaped h = cc
    finds es (d ∷ ds) (X ∷ E) b x e shaped h = by (same_name X.name x) h (λ k. finds es ds E (suc b) x (cc) (λ i Y l. shaped (suc i) Y (omega arith)) k)
      where
        first : shapes_of d ≡ variable_shapes spec X.parameters
        first = cc

        by : (t : Bool) → IsCalled spec scope es (cond t (Some X) (equation_named E x)) → (IsCalled spec scope es (equation_named E x) → Found ds (suc b) es (place_of (suc b) E x))
            → Found (d ∷ ds) b es (if t then Some b else place_of (suc b) E x)
        by true k later = (0, omega arith, arguments_typed es X.parameters d k.0 k.1 (shaped 0 X (omega arith)).shaped first)
        by false k later = found_next d ds b es (place_of (suc b) E x) (later k)

    call_typed : (es : Terms) (o : Option ℕ) → Found p.callees 0 es o → TypedFormula p ls ps (call o (arguments spec c scope es))
    call_typed es None h = refl
    call_typed es (Some k) h =
        let e = h.1 in
        let at : k ≡ h.0 = omega (arith, e) in
        subst (λ i. TypedCall p.sorts ls ps (slice_get p.callees i) (arguments spec c scope es)) (sym at) h.2

  -- ---- formulas

  module _ (callees : map shapes_of p.callees ≡ parameter_shapes spec spec.equations) where
    pub formula_types : (even : Bool) (scope : Scope) (f : syntax.Formula) → IsProper spec even scope f → Types scope (λ c n. normal spec even c scope n (expanded f))
    formula_types even scope (syntax.Formula.Truth b) h ls c n a slots = test_types ls even (Term.Truth b) refl
    formula_types even scope (syntax.Formula.Val x) h ls c n a slots = text_types true scope x h.0 h.1 even ls c n a slots
    formula_types even scope (syntax.Formula.Not f) h ls c n a slots = formula_types (not even) scope f h ls c n a slots
    formula_types even scope (syntax.Formula.And f g) h ls c n a slots =
        let m = n + width (expanded f) in
        (formula_types even scope f h.0 ls c n a slots.0, formula_types even scope g h.1 ls c m (more ls scope c n m (omega arith) a) slots.1)
    formula_types even scope (syntax.Formula.Or f g) h ls c n a slots =
        let m = n + width (expanded f) in
        (formula_types even scope f h.0 ls c n a slots.0, formula_types even scope g h.1 ls c m (more ls scope c n m (omega arith) a) slots.1)
    formula_types even scope (syntax.Formula.Implies f g) h ls c n a slots =
        let m = n + width (expanded f) in
        (formula_types (not even) scope f h.0 ls c n a slots.0, formula_types even scope g h.1 ls c m (more ls scope c n m (omega arith) a) slots.1)
    formula_types even scope (syntax.Formula.Quantified q xs f) h ls c n a slots =
        each_types (signed_quantifier q even) xs scope (λ d m. normal spec even d (bound spec xs scope) m (expanded f)) h.0.shaped (formula_types even (bound spec xs scope) f h.1) ls c n a slots
    formula_types even scope (syntax.Formula.Call x es) h ls c n a slots =
        call_typed ls scope c n a es (place_of 0 spec.equations x) (finds ls scope c n a es p.callees spec.equations 0 x callees declared.parameters h.1)
