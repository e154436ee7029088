-- A typed formula makes the calls of the formula that it comes from, in their order.
use Rattle.std.specs.Prelude.{⊤}
use Rattle.std.proofs.Common.{◌≡◌, ℕ, zero, suc, ◌+◌, ◌<◌, ◌==◌, ◌≤◌, Bool, true, false, not, ◌&&◌}
use Rattle.std.proofs.Common.{if◌then◌else◌, List, [], ◌∷◌, ◌++◌, Option, Some, length, map}
use Rattle.std.proofs.Common.{flat_map, take, drop, refl, sym, ◌∙◌, ap, arith, append-nil}
use Rattle.std.proofs.Common.{append_assoc, subst}
use Rattle.std.specs.List.{position_or_len}
use Rattle.std.proofs.Math.Seq.{take-append_seam, drop-append_seam}
use Rattle.std.proofs.lemmas.Bool.{eq-eqb, eqb-true, ne_eqb}
use Rattle.std.proofs.lemmas.List.{map-append}
use Rattle.pb_fixpoint.specs.Solution.{empty}
use Rattle.pb_text_tree.specs.declared.place.Place.{Place}
use Rattle.pb_text_tree.specs.declared.operator.Connective.{Connective}
use Rattle.pb_text_tree.specs.declared.operator.Connective.TheVariants.{And, Or, Implies}
use Rattle.pb_text_tree.specs.declared.operator.Quantifier.{Quantifier}
use Rattle.pb_text_tree.specs.Form.{FormulaForm}
use Rattle.pb_base_values.specs.Carrier.{Carrier, Tuple, Value}
use Rattle.pb_text_meaning.specs.Erase.{erased_arguments, erased_formula}
use Rattle.pb_text_meaning.specs.Erase.{erased_variables}
use Rattle.pb_text_meaning.specs.Formula as meaning
use Rattle.pb_text_meaning.specs.Formula.{equation_named}
use Rattle.pb_text_meaning.specs.Syntax as syntax
use Rattle.pb_text_meaning.specs.Syntax.{Name, same_name, Variable, Terms, Equation, Spec}
use Rattle.pb_text_meaning.specs.Value.{Assignment, values}
use Rattle.pb_typing_declarations.specs.Shapes.{shape_carrier, sort_shape}
use Rattle.pb_typing_declarations.proofs.ShapeLaws.{shape_carrier-sort_shape}
use Rattle.pb_typing_rules.specs.Formula.{IsCalled, IsProper}
use Rattle.pb_typing_rules.specs.Scope.{Scope, bound}
use Rattle.pb_typing_tree.specs.Calls.{calls, calls_in}
use Rattle.pb_typing_tree.specs.Elaboration as elaboration
use Rattle.pb_typing_tree.specs.Elaboration.{Slotting, with_slot, each, arguments, place_of}
use Rattle.pb_typing_tree.specs.Meaning.{Slots, set, truth}
use Rattle.pb_typing_tree.specs.Plain.{Agree, AreFree}
use Rattle.pb_typing_tree.specs.Tree.{Argument, Formula, Test, Negation, Connected, Quantified, Call}
use Rattle.pb_typing_tree.proofs.Plain.{expanded-plain}
use Rattle.pb_typing_tree.proofs.Slotted.{slotted-values}
use Rattle.pb_typing_tree.proofs.Truth.{agree-with, free-with, more-free}
use Rattle.pb_typing_calls.specs.Calls.{decides}
use Rattle.pb_typing_calls.specs.Gathered.{decides_first, gathered}
use Rattle.pb_typing_calls.specs.Made.{argument_values}
use Rattle.pb_typing_calls.specs.MadeCalls.{MadeCall, decides_alone, equation_position, for_values}
use Rattle.pb_typing_calls.specs.MadeCalls.{has_no_call, made_calls, with_value}
use Rattle.pb_typing_calls.specs.declared.side.Side.TheVariants.{Left}
use Rattle.pb_typing_calls.proofs.Elaborated.{argument-values, behind, calls-kept, keeps-truth}
use Rattle.pb_typing_calls.proofs.Elaborated.{typed}
use Rattle.pb_typing_calls.proofs.Operands.{none-append}

-- ---- where no place is given, nothing is gathered

none-for : (F : Value → List MadeCall) → ((v : Value) → F v ≡ []) → (vs : Carrier)
    → flat_map F vs ≡ []
none-for F h [] = refl
none-for F h (v ∷ vs) = ap (λ xs. xs ++ flat_map F vs) (h v) ∙ none-for F h vs

no-more : (b : Bool) (xs : List MadeCall) → xs ≡ [] → (if b then [] else xs) ≡ []
no-more true xs e = refl
no-more false xs e = e

none-first : (k : ℕ) (ps : List Place) → ps ≡ [] → take k ps ≡ []
none-first zero ps e = refl
none-first (suc k) [] e = refl
none-first (suc k) (p ∷ ps) e = cc

none-behind : (k : ℕ) (ps : List Place) → ps ≡ [] → drop k ps ≡ []
none-behind zero ps e = e
none-behind (suc k) [] e = refl
none-behind (suc k) (p ∷ ps) e = cc

pub no-places : (ps : List Place) → (length ps == 0) ≡ true → ps ≡ []
no-places [] e = refl
no-places (p ∷ ps) e = absurd (omega (arith, eqb-true (length (p ∷ ps)) 0 e))

pub nothing_gathered : (spec : Spec) (own : List ℕ) (a : Slots) (f : Formula) (ps : List Place)
    → ps ≡ [] → gathered spec own a f ps ≡ []
nothing_gathered spec own a (Test x) ps e = refl
nothing_gathered spec own a (Negation f) ps e = nothing_gathered spec own a f ps e
nothing_gathered spec own a (Connected c f g) ps e =
    let left = nothing_gathered spec own a f (take (calls f) ps) (none-first (calls f) ps e) in
    let right = nothing_gathered spec own a g (drop (calls f) ps) (none-behind (calls f) ps e) in
    let rest = if decides_first spec a c f then [] else gathered spec own a g (drop (calls f) ps) in
    ap (λ xs. xs ++ rest) left ∙ no-more (decides_first spec a c f) _ right
nothing_gathered spec own a (Quantified q s shape f) ps e =
    none-for (λ v. gathered spec (own ++ s ∷ []) (set a s v) f ps)
    (λ v. nothing_gathered spec (own ++ s ∷ []) (set a s v) f ps e) (shape_carrier shape)
nothing_gathered spec own a (Call X es) [] e = refl
nothing_gathered spec own a (Call X es) (p ∷ ps) e = cc

-- ---- operands without calls

no-call : (f : FormulaForm) → has_no_call f ≡ (length (calls_in f) == 0)
no-call (FormulaForm.constant p b) = refl
no-call (FormulaForm.val p x) = refl
no-call (FormulaForm.instance call) = refl
no-call (FormulaForm.negation p f) = no-call f
no-call (FormulaForm.connected c p f g) =
    ap (λ b. b && has_no_call g) (no-call f)
    ∙ (ap (λ b. (length (calls_in f) == 0) && b) (no-call g)
    ∙ sym (none-append (calls_in f) (calls_in g)))
no-call (FormulaForm.quantified q p xs f) = no-call f

-- ---- the values of the variables around

-- a call inside of quantifiers, for values of their variables
abbrev pub with_values : Tuple → MadeCall → MadeCall
with_values us c = record { place = c.place; own = us ++ c.own; instance = c.instance }

inside : (us : Tuple) (v : Value) (cs : List MadeCall)
    → map (with_values (us ++ v ∷ [])) cs ≡ map (with_values us) (map (with_value v) cs)
inside us v [] = refl
inside us v (c ∷ cs) =
    let of : Tuple → MadeCall =
    λ vs. record { place = c.place; own = vs; instance = c.instance } in
    ap (λ vs. of vs ∷ map (with_values (us ++ v ∷ [])) cs) (append_assoc us (v ∷ []) c.own)
    ∙ ap (λ ds. of (us ++ v ∷ c.own) ∷ ds) (inside us v cs)

pub inside-none : (cs : List MadeCall) → map (with_values []) cs ≡ cs
inside-none [] = refl
inside-none (c ∷ cs) = ap (λ ds. c ∷ ds) (inside-none cs)

each-value : (F G : Value → List MadeCall) (h : MadeCall → MadeCall)
    → ((v : Value) → F v ≡ map h (G v)) → (vs : Carrier) → flat_map F vs ≡ map h (flat_map G vs)
each-value F G h same [] = refl
each-value F G h same (v ∷ vs) =
    ap (λ xs. xs ++ flat_map F vs) (same v)
    ∙ (ap (λ xs. map h (G v) ++ xs) (each-value F G h same vs)
    ∙ sym (map-append h (G v) (flat_map G vs)))

-- each is one of n slots
abbrev pub AreSlots : ℕ → List ℕ → Type 0
AreSlots n [] = ⊤
AreSlots n (s ∷ ss) = (s < n) × AreSlots n ss

-- a slot that isn't among them changes none of their values
unchanged : (own : List ℕ) (n : ℕ) (a : Slots) (v : Value) → AreSlots n own
    → map (set a n v) own ≡ map a own
unchanged [] n a v below = refl
unchanged (s ∷ own) n a v below =
    ap (λ b. (if b then v else a s) ∷ map (set a n v) own)
    (ne_eqb s n (λ e. omega (arith, e, below.0)))
    ∙ ap (λ us. a s ∷ us) (unchanged own n a v below.1)

one-more : (own : List ℕ) (n : ℕ) (a : Slots) (v : Value) → AreSlots n own
    → map (set a n v) (own ++ n ∷ []) ≡ map a own ++ v ∷ []
one-more own n a v below =
    map-append (set a n v) own (n ∷ [])
    ∙ (ap (λ us. us ++ set a n v n ∷ []) (unchanged own n a v below)
    ∙ ap (λ b. map a own ++ (if b then v else a n) ∷ []) (eq-eqb n n refl))

pub below-more : (own : List ℕ) (n m : ℕ) → n ≤ m → AreSlots n own → AreSlots m own
below-more [] n m le below = tt
below-more (s ∷ own) n m le below = (omega (arith, below.0, le), below-more own n m le below.1)

below-with : (own : List ℕ) (n m : ℕ) → n < m → AreSlots m own → AreSlots m (own ++ n ∷ [])
below-with [] n m lt below = (lt, tt)
below-with (s ∷ own) n m lt below = (below.0, below-with own n m lt below.1)

-- ---- formulas

-- what a body has to say under each assignment, in a scope and with free slots
abbrev Gathers : Spec → (Assignment → List MadeCall) → (Slotting → ℕ → Formula) → List Place
    → Type 0
Gathers spec p body ps =
    (c : Slotting) (n : ℕ) (a : Slots) (g : Assignment) (own : List ℕ) → AreFree c n → Agree c a g
    → AreSlots n own → gathered spec own a (body c n) ps ≡ map (with_values (map a own)) (p g)

each-gathers : (spec : Spec) (q : Quantifier) (xs : List Variable) (p : Assignment → List MadeCall)
    (body : Slotting → ℕ → Formula) (ps : List Place) → Gathers spec p body ps
    → Gathers spec (for_values spec xs p) (λ c n. each spec q xs c n body) ps
each-gathers spec q [] p body ps says c n a g own free agree below =
    says c n a g own free agree below
each-gathers spec q (x ∷ xs) p body ps says c n a g own free agree below =
    let inner : Formula = each spec q xs (with_slot x.name n c) (suc n) body in
    let F : Value → List MadeCall = λ v. gathered spec (own ++ n ∷ []) (set a n v) inner ps in
    let rest : Value → List MadeCall = λ v. for_values spec xs p ((x.name, v) ∷ g) in
    let G : Value → List MadeCall = λ v. map (with_value v) (rest v) in
    let wider = below-with own n (suc n) (omega arith)
    (below-more own n (suc n) (omega arith) below) in
    let same : (v : Value) → F v ≡ map (with_values (map a own)) (G v) =
    λ v. each-gathers spec q xs p body ps says (with_slot x.name n c) (suc n) (set a n v)
    ((x.name, v) ∷ g) (own ++ n ∷ []) (free-with c n x.name free)
    (agree-with c n a g x.name v free agree) wider
    ∙ (ap (λ (us : Tuple). map (with_values us) (rest v)) (one-more own n a v below)
    ∙ inside (map a own) v (rest v)) in
    each-value F G (with_values (map a own)) same (shape_carrier (sort_shape spec x.sort))
    ∙ ap (λ (vs : Carrier). map (with_values (map a own)) (flat_map G vs))
    (shape_carrier-sort_shape spec x.sort)

-- a called equation is found at the place of the first of its name
found : (spec : Spec) (E : List Equation) (x : Name) (n : ℕ) (scope : Scope) (ts : Terms)
    → IsCalled spec scope ts (equation_named E x)
    → place_of n E x ≡ Some (n + position_or_len (λ (X : Equation). same_name X.name x) E)
found spec [] x n scope ts h = absurd h
found spec (X ∷ E) x n scope ts h =
    by (same_name X.name x) refl (found spec E x (suc n) scope ts)
  where
    rest : ℕ
    rest = position_or_len (λ (Y : Equation). same_name Y.name x) E

    goal : Bool → Type 0
    goal b = (if b then Some n else place_of (suc n) E x)
        ≡ Some (n + (if not b then 1 + rest else 0))

    by : (b : Bool) → same_name X.name x ≡ b
        → (IsCalled spec scope ts (equation_named E x) → place_of (suc n) E x ≡ Some (suc n + rest))
        → goal (same_name X.name x)
    by true e later = subst goal (sym e) (ap Some (omega arith))
    by false e later =
        let called =
        subst (λ b. IsCalled spec scope ts (if b then Some X else equation_named E x)) e h in
        subst goal (sym e) (later called ∙ ap Some (omega arith))

module _ (spec : Spec) where
  -- what an operand has to say
  record Keeps (f : FormulaForm) (t : Formula) (own : List ℕ) (a : Slots)
      (g : Assignment) : Type 0 where
    count : calls t ≡ length (calls_in f)
    holds : truth spec a empty t ≡ meaning.truth spec g empty (erased_formula f)
    gathers : gathered spec own a t (calls_in f)
        ≡ map (with_values (map a own)) (made_calls spec g f)

  decides-kept : (o : Connective) (f : FormulaForm) (t : Formula) (own : List ℕ) (a : Slots)
      (g : Assignment) → Keeps f t own a g
      → decides_first spec a o t ≡ decides_alone spec g o f
  decides-kept o f t own a g is =
      ap (λ k. (k == 0) && decides o Left (truth spec a empty t)) is.count
      ∙ (ap (λ b. b && decides o Left (truth spec a empty t)) (sym (no-call f))
      ∙ ap (λ b. has_no_call f && decides o Left b) is.holds)

  either-mapped : (us : Tuple) (b : Bool) (cs : List MadeCall)
      → (if b then [] else map (with_values us) cs)
      ≡ map (with_values us) (if b then [] else cs)
  either-mapped us true cs = refl
  either-mapped us false cs = refl

  operands-gather : (o : Connective) (p : Place) (f h : FormulaForm) (t u : Formula)
      (own : List ℕ) (a : Slots) (g : Assignment) → Keeps f t own a g → Keeps h u own a g
      → gathered spec own a (Connected o t u) (calls_in f ++ calls_in h)
      ≡ map (with_values (map a own)) (made_calls spec g (FormulaForm.connected o p f h))
  operands-gather o p f h t u own a g first second =
      let ps = calls_in f in
      let qs = calls_in h in
      let us = map a own in
      let W = map (with_values us) in
      let front : take (calls t) (ps ++ qs) ≡ ps =
      ap (λ k. take k (ps ++ qs)) first.count ∙ take-append_seam ps qs in
      let back : drop (calls t) (ps ++ qs) ≡ qs =
      ap (λ k. drop k (ps ++ qs)) first.count ∙ drop-append_seam ps qs in
      let both : List MadeCall → Bool → List MadeCall → List MadeCall =
      λ xs b ys. xs ++ (if b then [] else ys) in
      let left = decides_first spec a o t in
      let here : List Place → List MadeCall = λ xs. gathered spec own a t xs in
      let later : List Place → List MadeCall = λ xs. gathered spec own a u xs in
      let alone = decides_alone spec g o f in
      ap (λ xs. both (here xs) left (later (drop (calls t) (ps ++ qs)))) front
      ∙ (ap (λ xs. both (here ps) left (later xs)) back
      ∙ (ap (λ b. both (here ps) b (later qs)) (decides-kept o f t own a g first)
      ∙ (ap (λ xs. both xs alone (later qs)) first.gathers
      ∙ (ap (λ xs. both (W (made_calls spec g f)) alone xs) second.gathers
      ∙ (ap (λ xs. W (made_calls spec g f) ++ xs) (either-mapped us alone (made_calls spec g h))
      ∙ sym (map-append (with_values us) (made_calls spec g f)
      (if alone then [] else made_calls spec g h)))))))

  call-gathers : (p : Place) (es : List Argument) (own : List ℕ) (a : Slots) (vs : Tuple) (k : ℕ)
      (o : Option ℕ) → o ≡ Some k → argument_values a es ≡ vs
      → gathered spec own a (elaboration.call o es) (p ∷ [])
      ≡ map (with_values (map a own))
      (record { place = p; own = []; instance = record { equation = k; values = vs } } ∷ [])
  call-gathers p es own a vs k o at is =
      let of : Tuple → Tuple → MadeCall = λ us ws.
      record { place = p; own = us; instance = record { equation = k; values = ws } } in
      ap (λ (m : Option ℕ). gathered spec own a (elaboration.call m es) (p ∷ [])) at
      ∙ (ap (λ ws. of (map a own) ws ∷ []) is
      ∙ ap (λ us. of us vs ∷ []) (sym (append-nil (map a own))))

  keeps : (f : FormulaForm) (even : Bool) (scope : Scope)
      → IsProper spec even scope (erased_formula f)
      → (c : Slotting) (n : ℕ) (a : Slots) (g : Assignment) (own : List ℕ) → AreFree c n
      → Agree c a g
      → gathered spec own a (typed spec scope f c n) (calls_in f)
      ≡ map (with_values (map a own)) (made_calls spec g f)
      → Keeps f (typed spec scope f c n) own a g
  keeps f even scope h c n a g own free agree gathers = record {
    count = calls-kept spec f even scope h c n;
    holds = keeps-truth spec f even scope h c n a g free agree;
    gathers = gathers;
  }

  pub elaborated-gathers : (f : FormulaForm) (even : Bool) (scope : Scope)
      → IsProper spec even scope (erased_formula f)
      → Gathers spec (λ g. made_calls spec g f) (typed spec scope f) (calls_in f)
  elaborated-gathers (FormulaForm.constant p b) even scope h c n a g own free agree below = refl
  elaborated-gathers (FormulaForm.val p x) even scope h c n a g own free agree below =
      nothing_gathered spec own a (typed spec scope (FormulaForm.val p x) c n) [] refl
  elaborated-gathers (FormulaForm.instance call) even scope h c n a g own free agree below =
      let ts = erased_arguments call.arguments in
      let x = call.name.text in
      let plain = expanded-plain spec even scope (syntax.Formula.Call x ts) h in
      call-gathers call.name.place (arguments spec c scope ts) own a (values spec g ts)
      (equation_position spec x) (place_of 0 spec.equations x)
      (found spec spec.equations x 0 scope ts h.1 ∙ ap Some (omega arith))
      (argument-values spec c scope a ts ∙ slotted-values spec c a g agree ts plain)
  elaborated-gathers (FormulaForm.negation p f) even scope h c n a g own free agree below =
      elaborated-gathers f (not even) scope h c n a g own free agree below
  elaborated-gathers (FormulaForm.connected And p f k) even scope h c n a g own free agree below =
      let m = behind n f in
      let later = more-free c n m (omega arith) free in
      let wider = below-more own n m (omega arith) below in
      operands-gather And p f k (typed spec scope f c n) (typed spec scope k c m) own a g
      (keeps f even scope h.0 c n a g own free agree
      (elaborated-gathers f even scope h.0 c n a g own free agree below))
      (keeps k even scope h.1 c m a g own later agree
      (elaborated-gathers k even scope h.1 c m a g own later agree wider))
  elaborated-gathers (FormulaForm.connected Or p f k) even scope h c n a g own free agree below =
      let m = behind n f in
      let later = more-free c n m (omega arith) free in
      let wider = below-more own n m (omega arith) below in
      operands-gather Or p f k (typed spec scope f c n) (typed spec scope k c m) own a g
      (keeps f even scope h.0 c n a g own free agree
      (elaborated-gathers f even scope h.0 c n a g own free agree below))
      (keeps k even scope h.1 c m a g own later agree
      (elaborated-gathers k even scope h.1 c m a g own later agree wider))
  elaborated-gathers (FormulaForm.connected Implies p f k) even scope h c n a g own free agree
      below =
      let m = behind n f in
      let later = more-free c n m (omega arith) free in
      let wider = below-more own n m (omega arith) below in
      operands-gather Implies p f k (typed spec scope f c n) (typed spec scope k c m) own a g
      (keeps f (not even) scope h.0 c n a g own free agree
      (elaborated-gathers f (not even) scope h.0 c n a g own free agree below))
      (keeps k even scope h.1 c m a g own later agree
      (elaborated-gathers k even scope h.1 c m a g own later agree wider))
  elaborated-gathers (FormulaForm.quantified q p xs f) even scope h c n a g own free agree below =
      let inner = bound spec (erased_variables xs) scope in
      each-gathers spec q (erased_variables xs) (λ b. made_calls spec b f) (typed spec inner f)
      (calls_in f) (elaborated-gathers f even inner h.1) c n a g own free agree below
