-- A typed formula makes the calls of the formula that it comes from.
use Rattle.std.proofs.Common.{◌≡◌, ℕ, suc, ◌+◌, Bool, true, false, not, ◌&&◌, ◌||◌}
use Rattle.std.proofs.Common.{if◌then◌else◌, List, [], ◌∷◌, ◌++◌, Option, Some, None, length, map}
use Rattle.std.proofs.Common.{take, drop, refl, sym, ◌∙◌, ap, arith}
use Rattle.std.specs.Cmp.Lexicographic.{pointwise}
use Rattle.std.specs.Ordering.{int_eq}
use Rattle.std.proofs.Math.Seq.{take-append_seam, drop-append_seam}
use Rattle.std.proofs.lemmas.Bool.{and_right}
use Rattle.std.proofs.lemmas.List.{length-append}
use Rattle.pb_fixpoint.specs.Solution.{empty}
use Rattle.pb_text_tree.specs.declared.place.Place.{Place}
use Rattle.pb_text_tree.specs.declared.operator.Connective.{Connective}
use Rattle.pb_text_tree.specs.declared.operator.Connective.TheVariants.{And, Or, Implies}
use Rattle.pb_text_tree.specs.declared.operator.Quantifier.{Quantifier}
use Rattle.pb_text_tree.specs.declared.operator.Quantifier.TheVariants.{Exists}
use Rattle.pb_text_tree.specs.Form.{FormulaForm}
use Rattle.pb_base_values.specs.Carrier.{Value}
use Rattle.pb_sorts.specs.Instance as numbered
use Rattle.pb_text_meaning.specs.Erase.{erased_arguments, erased_formula, erased_term}
use Rattle.pb_text_meaning.specs.Erase.{erased_variables}
use Rattle.pb_text_meaning.specs.Formula as meaning
use Rattle.pb_text_meaning.specs.Formula.{Instance, equation_named}
use Rattle.pb_text_meaning.specs.Syntax as syntax
use Rattle.pb_text_meaning.specs.Syntax.{Name, same_name, Variable, Operator, Terms, Equation, Spec}
use Rattle.pb_text_meaning.specs.Value.{Assignment, of_values, quantified, values}
use Rattle.pb_typing_declarations.specs.Shapes.{shape_carrier, sort_shape}
use Rattle.pb_typing_declarations.proofs.ShapeLaws.{shape_carrier-sort_shape}
use Rattle.pb_typing_rules.specs.Formula.{IsCalled, IsProper}
use Rattle.pb_typing_rules.specs.Scope.{Scope, bound}
use Rattle.pb_typing_tree.specs.Calls.{calls, calls_in}
use Rattle.pb_typing_tree.specs.Elaboration as elaboration
use Rattle.pb_typing_tree.specs.Elaboration.{Slotting, with_slot, elaborated, each, arguments}
use Rattle.pb_typing_tree.specs.Elaboration.{place_of, slotted, slotted_all, width}
use Rattle.pb_typing_tree.specs.Expansion.{connected, expanded, expanded_term, has_quantifier}
use Rattle.pb_typing_tree.specs.Meaning.{Slots, set, truth, value}
use Rattle.pb_typing_tree.specs.Plain.{Agree, AreFree}
use Rattle.pb_typing_tree.specs.Tree.{Argument, Formula, Connected}
use Rattle.pb_typing_tree.proofs.Calls.{data-calls}
use Rattle.pb_typing_tree.proofs.Expanded.{expanded-truth, same-of-values}
use Rattle.pb_typing_tree.proofs.Plain.{expanded-plain}
use Rattle.pb_typing_tree.proofs.Slotted.{slotted-values}
use Rattle.pb_typing_tree.proofs.Truth.{agree-with, elaborated-truth, free-with, more-free}
use Rattle.pb_typing_calls.specs.Calls as of_text
use Rattle.pb_typing_calls.specs.Calls.{decides, is_deciding_test, makes_call, same_place}
use Rattle.pb_typing_calls.specs.Made as of_tree
use Rattle.pb_typing_calls.specs.Made.{is_deciding, made}
use Rattle.pb_typing_calls.specs.declared.side.Side.{Side}
use Rattle.pb_typing_calls.specs.declared.side.Side.TheVariants.{Left, Right}
use Rattle.pb_typing_calls.proofs.EquationNames.{is_at}
use Rattle.pb_typing_calls.proofs.Unmade.{nothing_made}

-- ---- how many calls a formula has

each-counted : (spec : Spec) (q : Quantifier) (xs : List Variable) (c : Slotting) (n k : ℕ)
    (body : Slotting → ℕ → Formula)
    → ((d : Slotting) (m : ℕ) → calls (body d m) ≡ k) → calls (each spec q xs c n body) ≡ k
each-counted spec q [] c n k body h = h c n
each-counted spec q (x ∷ xs) c n k body h = each-counted spec q xs (with_slot x.name n c)
    (suc n) k body h

-- an equation that is called is found
called-counted : (spec : Spec) (E : List Equation) (x : Name) (n : ℕ) (scope : Scope) (ts : Terms)
    (es : List Argument)
    → IsCalled spec scope ts (equation_named E x) → calls (elaboration.call (place_of n E x) es) ≡ 1
called-counted spec [] x n scope ts es h = absurd h
called-counted spec (X ∷ E) x n scope ts es h =
    by (same_name X.name x) (called-counted spec E x (suc n) scope ts es) h
  where
    by : (b : Bool)
        → (IsCalled spec scope ts (equation_named E x) → calls (elaboration.call (place_of
        (suc n) E x) es) ≡ 1)
        → IsCalled spec scope ts (if b then Some X else equation_named E x)
        → calls (elaboration.call (if b then Some n else place_of (suc n) E x) es) ≡ 1
    by true later h = refl
    by false later h = later h

-- the typed formula of a formula, in a scope
abbrev pub typed : Spec → Scope → FormulaForm → Slotting → ℕ → Formula
typed spec scope f c n = elaborated spec c scope n (expanded (erased_formula f))

-- where the slots of the second operand begin
abbrev pub behind : ℕ → FormulaForm → ℕ
behind n f = n + width (expanded (erased_formula f))

-- the typed formula of a well-typed one has its calls
pub calls-kept : (spec : Spec) (f : FormulaForm) (even : Bool) (scope : Scope)
    → IsProper spec even scope (erased_formula f)
    → (c : Slotting) (n : ℕ) → calls (typed spec scope f c n) ≡ length (calls_in f)
calls-kept spec (FormulaForm.constant p b) even scope h c n = refl
calls-kept spec (FormulaForm.val p x) even scope h c n = data-calls spec (erased_term x) c scope n
calls-kept spec (FormulaForm.instance call) even scope h c n =
    let ts = erased_arguments call.arguments in
    called-counted spec spec.equations call.name.text 0 scope ts (arguments spec c scope ts) h.1
calls-kept spec (FormulaForm.negation p f) even scope h c n =
    calls-kept spec f (not even) scope h c n
calls-kept spec (FormulaForm.connected And p f g) even scope h c n =
    let first = calls-kept spec f even scope h.0 c n in
    let second = calls-kept spec g even scope h.1 c (behind n f) in
    omega (arith, length-append (calls_in f) (calls_in g), first, second)
calls-kept spec (FormulaForm.connected Or p f g) even scope h c n =
    let first = calls-kept spec f even scope h.0 c n in
    let second = calls-kept spec g even scope h.1 c (behind n f) in
    omega (arith, length-append (calls_in f) (calls_in g), first, second)
calls-kept spec (FormulaForm.connected Implies p f g) even scope h c n =
    let first = calls-kept spec f (not even) scope h.0 c n in
    let second = calls-kept spec g even scope h.1 c (behind n f) in
    omega (arith, length-append (calls_in f) (calls_in g), first, second)
calls-kept spec (FormulaForm.quantified q p xs f) even scope h c n =
    let inner = bound spec (erased_variables xs) scope in
    each-counted spec q (erased_variables xs) c n (length (calls_in f)) (typed spec inner f)
    (calls-kept spec f even inner h.1)

-- ---- tests

-- the typed formula of a formula is a test where it is one
abbrev TestKept : Spec → syntax.Formula → Type 0
TestKept spec f =
    (c : Slotting) (scope : Scope) (n : ℕ)
    → of_tree.is_test (elaborated spec c scope n f) ≡ of_text.is_test f

each-test : (spec : Spec) (q : Quantifier) (xs : List Variable) (f : syntax.Formula)
    (body : Slotting → ℕ → Formula)
    → ((d : Slotting) (m : ℕ) → of_tree.is_test (body d m) ≡ of_text.is_test f)
    → (c : Slotting) (n : ℕ)
    → of_tree.is_test (each spec q xs c n body) ≡ of_text.is_test (syntax.Formula.Quantified q xs f)
each-test spec q [] f body h c n = h c n
each-test spec q (x ∷ xs) f body h c n = refl

choose-test : (spec : Spec) (b : Bool) (f g : syntax.Formula) → TestKept spec f → TestKept spec g
    → TestKept spec (if b then f else g)
choose-test spec true f g h k = h
choose-test spec false f g h k = k

connected-test : (spec : Spec) (o : Operator) (f g : syntax.Formula) (x : syntax.Term)
    → TestKept spec (connected o f g (syntax.Formula.Val x))
connected-test spec Operator.And f g x c scope n = refl
connected-test spec Operator.Or f g x c scope n = refl
connected-test spec Operator.Implies f g x c scope n = refl
connected-test spec o f g x c scope n = refl

data-test : (spec : Spec) (x : syntax.Term) → TestKept spec (expanded_term x)
data-test spec (syntax.Term.Truth b) c scope n = refl
data-test spec (syntax.Term.Number k) c scope n = refl
data-test spec (syntax.Term.Named x) c scope n = refl
data-test spec (syntax.Term.Not x) c scope n =
    choose-test spec (has_quantifier x) (syntax.Formula.Not (expanded_term x))
    (syntax.Formula.Val (syntax.Term.Not x)) (λ d s k. data-test spec x d s k) (λ d s k. refl)
    c scope n
data-test spec (syntax.Term.Negative x) c scope n = refl
data-test spec (syntax.Term.Binary o x y) c scope n =
    choose-test spec (has_quantifier x || has_quantifier y)
    (connected o (expanded_term x) (expanded_term y)
    (syntax.Formula.Val (syntax.Term.Binary o x y)))
    (syntax.Formula.Val (syntax.Term.Binary o x y))
    (connected-test spec o (expanded_term x) (expanded_term y) (syntax.Term.Binary o x y))
    (λ d s k. refl) c scope n
data-test spec (syntax.Term.Apply f xs) c scope n = refl
data-test spec (syntax.Term.Quantified q xs x) c scope n =
    each-test spec q xs (expanded_term x) _ (λ d m. data-test spec x d (bound spec xs scope) m) c n

-- an equation that is called is found, so a call is no test
called-test : (spec : Spec) (E : List Equation) (x : Name) (n : ℕ) (scope : Scope) (ts : Terms)
    (es : List Argument)
    → IsCalled spec scope ts (equation_named E x)
    → of_tree.is_test (elaboration.call (place_of n E x) es) ≡ false
called-test spec [] x n scope ts es h = absurd h
called-test spec (X ∷ E) x n scope ts es h =
    by (same_name X.name x) (called-test spec E x (suc n) scope ts es) h
  where
    by : (b : Bool)
        → (IsCalled spec scope ts (equation_named E x)
        → of_tree.is_test (elaboration.call (place_of (suc n) E x) es) ≡ false)
        → IsCalled spec scope ts (if b then Some X else equation_named E x)
        → of_tree.is_test (elaboration.call (if b then Some n else place_of (suc n) E x) es)
        ≡ false
    by true later h = refl
    by false later h = later h

test-kept : (spec : Spec) (f : FormulaForm) (even : Bool) (scope : Scope)
    → IsProper spec even scope (erased_formula f) → (c : Slotting) (n : ℕ)
    → of_tree.is_test (typed spec scope f c n) ≡ of_text.is_test (expanded (erased_formula f))
test-kept spec (FormulaForm.constant p b) even scope h c n = refl
test-kept spec (FormulaForm.val p x) even scope h c n = data-test spec (erased_term x) c scope n
test-kept spec (FormulaForm.instance call) even scope h c n =
    let ts = erased_arguments call.arguments in
    called-test spec spec.equations call.name.text 0 scope ts (arguments spec c scope ts) h.1
test-kept spec (FormulaForm.negation p f) even scope h c n =
    test-kept spec f (not even) scope h c n
test-kept spec (FormulaForm.connected And p f g) even scope h c n = refl
test-kept spec (FormulaForm.connected Or p f g) even scope h c n = refl
test-kept spec (FormulaForm.connected Implies p f g) even scope h c n = refl
test-kept spec (FormulaForm.quantified q p xs f) even scope h c n =
    let inner = bound spec (erased_variables xs) scope in
    each-test spec q (erased_variables xs) (expanded (erased_formula f)) (typed spec inner f)
    (test-kept spec f even inner h.1) c n

pub argument-values : (spec : Spec) (c : Slotting) (scope : Scope) (a : Slots) (ts : Terms)
    → map (λ (e : Argument). value a e.term) (arguments spec c scope ts)
    ≡ map (value a) (slotted_all spec c ts)
argument-values spec c scope a Terms.NoTerms = refl
argument-values spec c scope a (Terms.Then x xs) =
    ap (λ vs. value a (slotted spec c x) ∷ vs) (argument-values spec c scope a xs)

-- where nothing holds, a formula keeps its truth
pub keeps-truth : (spec : Spec) (f : FormulaForm) (even : Bool) (scope : Scope)
    → IsProper spec even scope (erased_formula f)
    → (c : Slotting) (n : ℕ) (a : Slots) (g : Assignment) → AreFree c n → Agree c a g
    → truth spec a empty (typed spec scope f c n)
    ≡ meaning.truth spec g empty (erased_formula f)
keeps-truth spec f even scope h c n a g free agree =
    elaborated-truth spec empty (expanded (erased_formula f)) scope
    (λ s. sym (shape_carrier-sort_shape spec s))
    (expanded-plain spec even scope (erased_formula f) h) c n a g free agree
    ∙ expanded-truth spec empty (erased_formula f) g

-- ---- the calls that are made

-- an instance by the place of its equation, and by its name
pub record AreSame (spec : Spec) (i : Instance) (j : numbered.Instance) : Type 0 where
  pub equation : (x : Name) → is_at (place_of 0 spec.equations x) j.equation ≡ same_name x i.name
  pub values : j.values ≡ i.values

module _ (spec : Spec) (place : Place) (i : Instance) (j : numbered.Instance)
    (same : AreSame spec i j) where
  -- what a body has to say under each assignment, in a scope and with free slots
  abbrev Makes : (Assignment → Bool) → (Slotting → ℕ → Formula) → List Place → Type 0
  Makes p body ps =
      (c : Slotting) (n : ℕ) (a : Slots) (g : Assignment) → AreFree c n → Agree c a g
      → made spec j place a (body c n) ps ≡ p g

  each-makes : (q : Quantifier) (xs : List Variable) (p : Assignment → Bool)
      (body : Slotting → ℕ → Formula) (ps : List Place) → Makes p body ps
      → Makes (quantified spec Exists xs p) (λ c n. each spec q xs c n body) ps
  each-makes q [] p body ps says c n a g free agree = says c n a g free agree
  each-makes q (x ∷ xs) p body ps says c n a g free agree =
      let rest : Value → Bool = λ v. quantified spec Exists xs p ((x.name, v) ∷ g) in
      same-of-values Exists _ rest
      (λ v. each-makes q xs p body ps says (with_slot x.name n c) (suc n) (set a n v)
      ((x.name, v) ∷ g) (free-with c n x.name free) (agree-with c n a g x.name v free agree))
      (shape_carrier (sort_shape spec x.sort))
      ∙ ap (of_values Exists rest) (shape_carrier-sort_shape spec x.sort)

  -- what an operand has to say
  record Keeps (f : FormulaForm) (t : Formula) (a : Slots) (g : Assignment) : Type 0 where
    count : calls t ≡ length (calls_in f)
    test : of_tree.is_test t ≡ of_text.is_test (expanded (erased_formula f))
    holds : truth spec a empty t ≡ meaning.truth spec g empty (erased_formula f)
    makes : made spec j place a t (calls_in f) ≡ makes_call spec i place g f

  deciding-kept : (o : Connective) (side : Side) (f : FormulaForm) (t : Formula) (a : Slots)
      (g : Assignment) → Keeps f t a g
      → is_deciding spec a o side t ≡ is_deciding_test spec g o side f
  deciding-kept o side f t a g is =
      ap (λ b. b && decides o side (truth spec a empty t)) is.test
      ∙ ap (λ b. of_text.is_test (expanded (erased_formula f)) && decides o side b) is.holds

  operands-make : (o : Connective) (p : Place) (f h : FormulaForm) (t u : Formula) (a : Slots)
      (g : Assignment) → Keeps f t a g → Keeps h u a g
      → made spec j place a (Connected o t u) (calls_in f ++ calls_in h)
      ≡ makes_call spec i place g (FormulaForm.connected o p f h)
  operands-make o p f h t u a g first second =
      let ps = calls_in f in
      let qs = calls_in h in
      let front : take (calls t) (ps ++ qs) ≡ ps =
      ap (λ k. take k (ps ++ qs)) first.count ∙ take-append_seam ps qs in
      let back : drop (calls t) (ps ++ qs) ≡ qs =
      ap (λ k. drop k (ps ++ qs)) first.count ∙ drop-append_seam ps qs in
      let both = λ (r x l y : Bool). (not r && x) || (not l && y) in
      let right = is_deciding spec a o Right u in
      let left = is_deciding spec a o Left t in
      let here : List Place → Bool = λ xs. made spec j place a t xs in
      let later : List Place → Bool = λ xs. made spec j place a u xs in
      ap (λ xs. both right (here xs) left (later (drop (calls t) (ps ++ qs)))) front
      ∙ ap (λ xs. both right (here ps) left (later xs)) back
      ∙ ap (λ b. both b (here ps) left (later qs)) (deciding-kept o Right h u a g second)
      ∙ ap (λ b. both (is_deciding_test spec g o Right h) b left (later qs)) first.makes
      ∙ ap (λ b. both (is_deciding_test spec g o Right h) (makes_call spec i place g f) b (later qs))
      (deciding-kept o Left f t a g first)
      ∙ ap (both (is_deciding_test spec g o Right h) (makes_call spec i place g f)
      (is_deciding_test spec g o Left f)) second.makes

  -- a call, whose equation may be none
  call-makes : (x : Name) (p : Place) (es : List Argument) (a : Slots) (vs : List Value)
      (o : Option ℕ) → is_at o j.equation ≡ same_name x i.name
      → map (λ (e : Argument). value a e.term) es ≡ vs
      → made spec j place a (elaboration.call o es) (p ∷ [])
      ≡ same_place p place && (same_name x i.name && pointwise int_eq vs i.values)
  call-makes x p es a vs None at is =
      sym (ap (λ b. same_place p place && (b && pointwise int_eq vs i.values)) (sym at)
      ∙ and_right (same_place p place) false refl)
  call-makes x p es a vs (Some k) at is =
      let us = map (λ (e : Argument). value a e.term) es in
      ap (λ b. same_place p place && (b && pointwise int_eq us j.values)) at
      ∙ ap (λ ws. same_place p place && (same_name x i.name && pointwise int_eq ws j.values)) is
      ∙ ap (λ ws. same_place p place && (same_name x i.name && pointwise int_eq vs ws)) same.values

  keeps : (f : FormulaForm) (even : Bool) (scope : Scope)
      → IsProper spec even scope (erased_formula f)
      → (c : Slotting) (n : ℕ) (a : Slots) (g : Assignment) → AreFree c n → Agree c a g
      → made spec j place a (typed spec scope f c n) (calls_in f) ≡ makes_call spec i place g f
      → Keeps f (typed spec scope f c n) a g
  keeps f even scope h c n a g free agree makes = record {
    count = calls-kept spec f even scope h c n;
    test = test-kept spec f even scope h c n;
    holds = keeps-truth spec f even scope h c n a g free agree;
    makes = makes;
  }

  pub elaborated-makes : (f : FormulaForm) (even : Bool) (scope : Scope)
      → IsProper spec even scope (erased_formula f)
      → Makes (λ g. makes_call spec i place g f) (typed spec scope f) (calls_in f)
  elaborated-makes (FormulaForm.constant p b) even scope h c n a g free agree = refl
  elaborated-makes (FormulaForm.val p x) even scope h c n a g free agree =
      nothing_made spec j place a (typed spec scope (FormulaForm.val p x) c n) [] refl
  elaborated-makes (FormulaForm.instance call) even scope h c n a g free agree =
      let ts = erased_arguments call.arguments in
      let x = call.name.text in
      let plain = expanded-plain spec even scope (syntax.Formula.Call x ts) h in
      call-makes x call.name.place (arguments spec c scope ts) a (values spec g ts)
      (place_of 0 spec.equations x) (same.equation x)
      (argument-values spec c scope a ts ∙ slotted-values spec c a g agree ts plain)
  elaborated-makes (FormulaForm.negation p f) even scope h c n a g free agree =
      elaborated-makes f (not even) scope h c n a g free agree
  elaborated-makes (FormulaForm.connected And p f k) even scope h c n a g free agree =
      let m = behind n f in
      let later = more-free c n m (omega arith) free in
      operands-make And p f k (typed spec scope f c n) (typed spec scope k c m) a g
      (keeps f even scope h.0 c n a g free agree
      (elaborated-makes f even scope h.0 c n a g free agree))
      (keeps k even scope h.1 c m a g later agree
      (elaborated-makes k even scope h.1 c m a g later agree))
  elaborated-makes (FormulaForm.connected Or p f k) even scope h c n a g free agree =
      let m = behind n f in
      let later = more-free c n m (omega arith) free in
      operands-make Or p f k (typed spec scope f c n) (typed spec scope k c m) a g
      (keeps f even scope h.0 c n a g free agree
      (elaborated-makes f even scope h.0 c n a g free agree))
      (keeps k even scope h.1 c m a g later agree
      (elaborated-makes k even scope h.1 c m a g later agree))
  elaborated-makes (FormulaForm.connected Implies p f k) even scope h c n a g free agree =
      let m = behind n f in
      let later = more-free c n m (omega arith) free in
      operands-make Implies p f k (typed spec scope f c n) (typed spec scope k c m) a g
      (keeps f (not even) scope h.0 c n a g free agree
      (elaborated-makes f (not even) scope h.0 c n a g free agree))
      (keeps k even scope h.1 c m a g later agree
      (elaborated-makes k even scope h.1 c m a g later agree))
  elaborated-makes (FormulaForm.quantified q p xs f) even scope h c n a g free agree =
      let inner = bound spec (erased_variables xs) scope in
      each-makes q (erased_variables xs) (λ b. makes_call spec i place b f) (typed spec inner f)
      (calls_in f) (elaborated-makes f even inner h.1) c n a g free agree
