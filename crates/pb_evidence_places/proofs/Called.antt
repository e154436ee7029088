-- Each call of an instance's tree is a call that the instance's right side makes in the text.
use Rattle.std.proofs.Common.{◌≡◌, ℕ, zero, suc, Bool, true, false, List, [], ◌∷◌, Option, Some, None}
use Rattle.std.proofs.Common.{◌<◌, ◌||◌, not, if◌then◌else◌, get_or, arith, length, map, refl, sym, ap, ◌∙◌, subst, true≢false}
use Rattle.std.specs.Prelude.{IsSome, cond}
use Rattle.std.specs.List.{find, slice_get}
use Rattle.std.proofs.lemmas.Bool.{and_parts, eqb-true}
use Rattle.std.proofs.lemmas.Option.{slice_get-get_or}
use Rattle.pb_base_values.specs.Carrier as carriers
use Rattle.pb_base_values.specs.Carrier.{Tuple}
use Rattle.pb_text_tree.specs.declared.place.Place.{Place}
use Rattle.pb_text_tree.specs.Form.{EquationForm, SpecForm}
use Rattle.pb_sorts.specs.declared.carrier.Carrier.{Carrier}
use Rattle.pb_sorts.specs.Carrier.{values_of}
use Rattle.pb_sorts.specs.Instance.{Instance, instances, is_instance, is_tuple_of, number_of}
use Rattle.pb_sorts.specs.Layout.{carriers_of, count_of}
use Rattle.pb_sorts.proofs.Numbers.{is_instance-slice_get, number-is_instance, number_of-slice_get}
use Rattle.pb_sorts.proofs.Places.{map_cases, slice_get-mapped}
use Rattle.pb_fixpoint_trees.specs.Tree.{Tree, TreeCalls}
use Rattle.pb_text_meaning.specs.Erase.{erase, erased_equation, erased_variables}
use Rattle.pb_text_meaning.specs.Formula as meaning
use Rattle.pb_text_meaning.specs.Positive.{IsPositive}
use Rattle.pb_text_meaning.specs.Syntax as syntax
use Rattle.pb_text_meaning.specs.Syntax.{Equation, Operator, Spec}
use Rattle.pb_typing_rules.specs.Formula.{IsProper}
use Rattle.pb_typing_rules.specs.WellTyped.{IsWellTyped, parameter_scope}
use Rattle.pb_typing_rules.specs.Scope.{Scope, bound}
use Rattle.pb_typing_tree.specs.Calls.{calls, calls_in}
use Rattle.pb_typing_tree.specs.Elaboration.{Slotting, elaborated, elaborated_equation, unslotted}
use Rattle.pb_typing_tree.specs.Elaboration.{with_slots}
use Rattle.pb_typing_tree.specs.Meaning.{Slots}
use Rattle.pb_typing_tree.proofs.EquationsFit.{within-length}
use Rattle.pb_typing_values.specs.Environment.{all_carriers}
use Rattle.pb_bytecode_program.specs.Machine.{Program}
use Rattle.pb_bytecode_program.specs.Safety.{AreArguments, EndsWith}
use Rattle.pb_bytecode.specs.Contents.{Contents, EquationContents}
use Rattle.pb_bytecode.specs.Meaning.{AreTrees, number_at, parameters, program_of, signature_of}
use Rattle.pb_normal.specs.Answer.{slots_of}
use Rattle.pb_normal.specs.Equations.{normal_equation}
use Rattle.pb_normal.specs.Expansion.{connected, expanded, expanded_term, has_quantifier}
use Rattle.pb_normal.specs.Normalisation.{normal}
use Rattle.pb_normal.specs.SignedForm.{signed_form}
use Rattle.pb_normal.proofs.Answer.{slots-hold}
use Rattle.pb_assembler_scheme.specs.Correct.{HasFullCalls}
use Rattle.pb_assembler_scheme.proofs.FullCalls.{equation-full}
use Rattle.pb_assembler_scheme.proofs.Numbered.{HasSlots}
use Rattle.pb_assembler_scheme.proofs.Slots.{program-slots}
use Rattle.pb_assembler_modules.specs.Module.{AreEquationsOf, IsCompiledModule, IsEquationOf}
use Rattle.pb_typing_calls.specs.Calls.{same_place}
use Rattle.pb_typing_calls.specs.Made.{first_made, made}
use Rattle.pb_typing_calls.proofs.Callers.{first-kept, proper-at}
use Rattle.pb_typing_calls.proofs.Elaborated.{calls-kept}
use Rattle.pb_typing_calls.proofs.Unmade.{any_at, nothing_made}
use Rattle.pb_evidence_places.specs.CallPlaces.{AreCalled, instance_numbered, place_of_call}
use Rattle.pb_evidence_places.proofs.Carriers.{equations_carriers}
use Rattle.pb_evidence_places.proofs.FormulaCode.{NamesOnly, tree-names}
use Rattle.pb_evidence_places.proofs.Named.{makes-named}
use Rattle.pb_evidence_places.proofs.Placing.{place_known}
use Rattle.pb_evidence_places.proofs.Supported.{named-called}
use Rattle.pb_bytecode.proofs.InstanceCounts.{count_is_total}
use Rattle.pb_game_of_trees.specs.Explored.{ModuleHasTrees}
use Rattle.pb_fixpoint_trees.specs.Equations.{total}
use Rattle.pb_evidence.specs.Evidence.{graph_of}
use Rattle.pb_evidence.specs.declared.Evidence.{Evidence}
use Rattle.pb_report.specs.ModuleEvidence.{IsModuleEvidence}

-- ---- a call that is made is the first one of some place

found-at : (f : Place → Bool) (ps : List Place) (place : Place) → any_at place ps ≡ true
    → f place ≡ true → IsSome (find f ps)
found-at f [] place e is = absurd (true≢false (sym e))
found-at f (q ∷ qs) place e is = by (f q) refl (λ k. found-at f qs place k is)
  where
    here : same_place q place ≡ true → f q ≡ true
    here same =
        let two = and_parts _ _ same in
        let line = eqb-true q.line place.line two.0 in
        let column = eqb-true q.column place.column two.1 in
        ap (λ l. f (record { line = l; column = q.column })) line
        ∙ (ap (λ k. f (record { line = place.line; column = k })) column ∙ is)

    there : (b : Bool) → same_place q place ≡ b → f q ≡ false
        → (any_at place qs ≡ true → IsSome (find f qs)) → IsSome (find f qs)
    there true same un later = absurd (true≢false (sym (here same) ∙ un))
    there false same un later = later (sym (ap (λ b. b || any_at place qs) same) ∙ e)

    by : (b : Bool) → f q ≡ b → (any_at place qs ≡ true → IsSome (find f qs))
        → IsSome (cond b (Some q) (find f qs))
    by true un later = refl
    by false un later = there (same_place q place) refl un later

first-found : (spec : Spec) (i : Instance) (place : Place) (a : Slots) (f : _) (ps : List Place)
    → made spec i place a f ps ≡ true → IsSome (first_made spec i a f ps)
first-found spec i place a f ps is = by (any_at place ps) refl
  where
    by : (b : Bool) → any_at place ps ≡ b → IsSome (first_made spec i a f ps)
    by true e = found-at (λ q. made spec i q a f ps) ps place e is
    by false e = absurd (true≢false (sym is ∙ nothing_made spec i place a f ps e))

-- ---- an equation of a module, and the one of the text that it is of

record HasEquation (spec : Spec) (m : Contents) (E : List Equation) (k : ℕ) (e : EquationContents)
    : Type 0 where
  equation : Equation
  at : slice_get E k ≡ Some equation
  of : IsEquationOf spec m equation e

equation-of : (spec : Spec) (m : Contents) (E : List Equation) (es : List EquationContents)
    → AreEquationsOf spec m E es → (k : ℕ) (e : EquationContents) → slice_get es k ≡ Some e
    → HasEquation spec m E k e
equation-of spec m [] [] q k e at = cc
equation-of spec m [] (d ∷ es) q k e at = absurd q
equation-of spec m (X ∷ E) [] q k e at = absurd q
equation-of spec m (X ∷ E) (d ∷ es) q zero e at =
    let same : d ≡ e = cc in
    record {
      equation = X;
      at = refl;
      of = subst (λ (c : EquationContents). IsEquationOf spec m X c) same q.0;
    }
equation-of spec m (X ∷ E) (d ∷ es) q (suc k) e at =
    let h = equation-of spec m E es q.1 k e at in
    record { equation = h.equation; at = h.at; of = h.of }

-- ---- data with quantifiers, read as formulas, leaves calls under as many negations as before

chosen-positive : (b even : Bool) (f g : syntax.Formula) → IsPositive even f → IsPositive even g
    → IsPositive even (if b then f else g)
chosen-positive true even f g h k = h
chosen-positive false even f g h k = k

joined-positive : (o : Operator) (even : Bool) (f g : syntax.Formula) (x : syntax.Term)
    → ((b : Bool) → IsPositive b f) → IsPositive even g
    → IsPositive even (connected o f g (syntax.Formula.Val x))
joined-positive Operator.And even f g x h k = (h even, k)
joined-positive Operator.Or even f g x h k = (h even, k)
joined-positive Operator.Implies even f g x h k = (h (not even), k)
joined-positive o even f g x h k = tt

data-positive : (x : syntax.Term) (even : Bool) → IsPositive even (expanded_term x)
data-positive (syntax.Term.Truth b) even = tt
data-positive (syntax.Term.Number n) even = tt
data-positive (syntax.Term.Named x) even = tt
data-positive (syntax.Term.Not x) even =
    chosen-positive (has_quantifier x) even (syntax.Formula.Not (expanded_term x))
    (syntax.Formula.Val (syntax.Term.Not x)) (data-positive x (not even)) tt
data-positive (syntax.Term.Negative x) even = tt
data-positive (syntax.Term.Binary o x y) even =
    chosen-positive (has_quantifier x || has_quantifier y) even
    (connected o (expanded_term x) (expanded_term y) (syntax.Formula.Val (syntax.Term.Binary o x y)))
    (syntax.Formula.Val (syntax.Term.Binary o x y))
    (joined-positive o even (expanded_term x) (expanded_term y) (syntax.Term.Binary o x y)
    (λ b. data-positive x b) (data-positive y even)) tt
data-positive (syntax.Term.Apply f xs) even = tt
data-positive (syntax.Term.Quantified q xs x) even = data-positive x even

proper-positive : (spec : Spec) (f : syntax.Formula) (even : Bool) (scope : Scope)
    → IsProper spec even scope f → IsPositive even (expanded f)
proper-positive spec (syntax.Formula.Truth b) even scope h = tt
proper-positive spec (syntax.Formula.Val x) even scope h = data-positive x even
proper-positive spec (syntax.Formula.Not f) even scope h = proper-positive spec f (not even) scope h
proper-positive spec (syntax.Formula.And f g) even scope h =
    (proper-positive spec f even scope h.0, proper-positive spec g even scope h.1)
proper-positive spec (syntax.Formula.Or f g) even scope h =
    (proper-positive spec f even scope h.0, proper-positive spec g even scope h.1)
proper-positive spec (syntax.Formula.Implies f g) even scope h =
    (proper-positive spec f (not even) scope h.0, proper-positive spec g even scope h.1)
proper-positive spec (syntax.Formula.Quantified q xs f) even scope h =
    proper-positive spec f even (bound spec xs scope) h.1
proper-positive spec (syntax.Formula.Call x es) even scope h = h.0

-- what normal forms are of
abbrev pub AreOfTypedTrees : Type 0
AreOfTypedTrees =
    (spec : Spec) (f : syntax.Formula) (even : Bool) (scope : Scope) (c : Slotting) (n : ℕ)
    → IsPositive even f
    → normal spec even c scope n f ≡ signed_form even (elaborated spec c scope n f)

-- ---- numbers

numbered-at : (layout : List (List Carrier)) (i : Instance)
    → is_instance (carriers_of layout) i ≡ true
    → instance_numbered layout (number_of (carriers_of layout) i) ≡ Some i
numbered-at layout i is =
    let h = number-is_instance (carriers_of layout) i is in
    let n = number_of-slice_get layout h.number i h.at in
    ap (slice_get (instances (carriers_of layout))) (sym n) ∙ h.at

module _ (law : AreOfTypedTrees) (text : SpecForm) (well : IsWellTyped (erase text)) (m : Contents)
    (compiled : IsCompiledModule (erase text) m) where
  abbrev S : Spec
  S = erase text

  same-carriers : carriers_of (parameters m) ≡ all_carriers S
  same-carriers = equations_carriers S m S.equations m.equations compiled.equations

  -- the equation of an instance
  equation-form : (i : Instance) → is_instance (carriers_of (parameters m)) i ≡ true
      → (X : EquationForm) × (slice_get text.equations i.equation ≡ Some X)
  equation-form i is = by (slice_get (all_carriers S) i.equation) refl
      (ap (λ css. is_instance css i) (sym same-carriers) ∙ is)
    where
      by : (o : Option (List carriers.Carrier)) → slice_get (all_carriers S) i.equation ≡ o
          → is_tuple_of o i.values ≡ true
          → (X : EquationForm) × (slice_get text.equations i.equation ≡ Some X)
      by None at e = absurd (true≢false (sym e))
      by (Some cs) at e =
          let h = map_cases (λ (Y : Equation). meaning.carriers_of S Y.parameters) S.equations
          i.equation cs at in
          let g = map_cases erased_equation text.equations i.equation h.source h.at in
          (g.source, g.at)

  module _ (k : ℕ) (e : EquationContents) (vs : Tuple) (at : slice_get m.equations k ≡ Some e)
      (fit : AreArguments e.parameters vs) where
    abbrev caller : Instance
    caller = record { equation = k; values = vs }

    caller-is : is_instance (carriers_of (parameters m)) caller ≡ true
    caller-is =
        ap (λ o. is_tuple_of o vs)
        (slice_get-mapped (λ (ds : List Carrier). map values_of ds) (parameters m) k e.parameters
        (slice_get-mapped (λ (d : EquationContents). d.parameters) m.equations k e at))
        ∙ fit

    -- the instance with this number is called at some place
    abbrev pub IsCalled : ℕ → Type 0
    IsCalled n = IsSome (place_of_call text (parameters m) (number_at m k vs) n)

    module _ (W : EquationForm) (of : IsEquationOf S m (erased_equation W) e)
        (there : slice_get text.equations k ≡ Some W) where
      abbrev X : Equation
      X = erased_equation W

      abbrev p : Program
      p = program_of m e

      abbrev a : Slots
      a = slots_of vs

      at-text : slice_get S.equations k ≡ Some X
      at-text = slice_get-mapped erased_equation text.equations k W there

      proper : IsProper S true (parameter_scope S X) X.right
      proper = proper-at S S.equations k X well.rights at-text

      form : normal_equation S X ≡ signed_form true (elaborated_equation S X)
      form =
          law S (expanded X.right) true (parameter_scope S X)
          (with_slots X.parameters 0 unslotted) (length X.parameters)
          (proper-positive S X.right true (parameter_scope S X) proper)

      full : HasFullCalls (parameters m) (normal_equation S X)
      full = equation-full S (parameters m) same-carriers X proper

      slots : HasSlots p (normal_equation S X)
      slots = program-slots p (normal_equation S X) of.compiled.slots

      long : length (calls_in W.right) ≡ calls (elaborated_equation S X)
      long =
          sym (calls-kept S W.right true (parameter_scope S X) proper
          (with_slots X.parameters 0 unslotted) (length X.parameters))

      count : length vs ≡ length (erased_variables W.parameters)
      count = within-length S X.parameters vs caller-within
        where
          caller-within : carriers.is_within (meaning.carriers_of S X.parameters) vs ≡ true
          caller-within =
              ap (λ o. is_tuple_of o vs)
              (sym (slice_get-mapped (λ (Y : Equation). meaning.carriers_of S Y.parameters)
              S.equations k X at-text))
              ∙ (ap (λ css. is_instance css caller) (sym same-carriers) ∙ caller-is)

      called : (i : Instance) (place : Place) → is_instance (carriers_of (parameters m)) i ≡ true
          → made S i place a (elaborated_equation S X) (calls_in W.right) ≡ true
          → IsCalled (number_of (carriers_of (parameters m)) i)
      called i place is makes =
          let Y = equation-form i is in
          let some = first-found S i place a (elaborated_equation S X) (calls_in W.right) makes in
          let kept = first-kept text well caller i W Y.0 there Y.1 a count (slots-hold vs) in
          let known = place_known text (parameters m) (number_at m k vs)
          (number_of (carriers_of (parameters m)) i) caller i
          (numbered-at (parameters m) caller caller-is) (numbered-at (parameters m) i is) in
          subst IsSome (kept ∙ known) some

      names-called : NamesOnly p IsCalled a (normal_equation S X)
      names-called =
          subst (NamesOnly p IsCalled a) (sym form)
          (makes-named S p IsCalled (elaborated_equation S X) true a (calls_in W.right) long
          (subst (HasSlots p) form slots) (subst (HasFullCalls (parameters m)) form full) called)

      calls-of-text : (tree : Tree) → EndsWith p vs tree → TreeCalls IsCalled tree
      calls-of-text tree ended =
          tree-names p IsCalled (normal_equation S X) vs tree of.compiled full fit ended names-called

    pub tree-called : (trees : ℕ → Tree) → AreTrees m trees
        → TreeCalls IsCalled (trees (number_at m k vs))
    tree-called trees ends =
        let h = equation-of S m S.equations m.equations compiled.equations k e at in
        let g = map_cases erased_equation text.equations k h.equation h.at in
        let of = subst (λ (Y : Equation). IsEquationOf S m Y e) (sym g.image) h.of in
        calls-of-text g.source of g.at (trees (number_at m k vs)) (ends k e vs at fit)

  -- ---- evidence

  record HasArguments (i : Instance) : Type 0 where
    equation : EquationContents
    at : slice_get m.equations i.equation ≡ Some equation
    fit : AreArguments equation.parameters i.values

  arguments-of : (i : Instance) → is_instance (carriers_of (parameters m)) i ≡ true → HasArguments i
  arguments-of i is = by (slice_get (carriers_of (parameters m)) i.equation) refl is
    where
      by : (o : Option (List carriers.Carrier)) → slice_get (carriers_of (parameters m)) i.equation ≡ o
          → is_tuple_of o i.values ≡ true → HasArguments i
      by None at e = absurd (true≢false (sym e))
      by (Some cs) at e =
          let h = map_cases (λ (ds : List Carrier). map values_of ds) (parameters m) i.equation cs at in
          let g = map_cases (λ (d : EquationContents). d.parameters) m.equations i.equation h.source h.at in
          let within = subst (λ (ds : List carriers.Carrier). carriers.is_within ds i.values ≡ true)
          (sym h.image) e in
          record {
            equation = g.source;
            at = g.at;
            fit = subst (λ (ds : List Carrier). AreArguments ds i.values) (sym g.image) within;
          }

  -- each call of the tree of a number has a place in the text
  number-called : (trees : ℕ → Tree) → AreTrees m trees → (n : ℕ) → n < count_of (parameters m)
      → TreeCalls (λ j. IsSome (place_of_call text (parameters m) n j)) (trees n)
  number-called trees ends n below =
      let css = carriers_of (parameters m) in
      let none : Instance = record { equation = 0; values = [] } in
      let i = get_or (instances css) n none in
      let at : slice_get (instances css) n ≡ Some i = slice_get-get_or (instances css) n none below in
      let h = arguments-of i (is_instance-slice_get css n i at) in
      subst (λ (k : ℕ). TreeCalls (λ j. IsSome (place_of_call text (parameters m) k j)) (trees k))
      (sym (number_of-slice_get (parameters m) n i at))
      (tree-called i.equation h.equation i.values h.at h.fit trees ends)

  pub graph-called : ModuleHasTrees m → (e : Evidence) → IsModuleEvidence m e
      → AreCalled text (parameters m) (graph_of e)
  graph-called have e is n j rests =
      let shown = is have.0 have.1 in
      let all : count_of (parameters m) ≡ total (map signature_of m.equations) = count_is_total m in
      let below : n < count_of (parameters m) = omega (arith, all, shown.graph.below n rests.0) in
      let support = shown.choices n rests.0 in
      named-called (λ k. IsSome (place_of_call text (parameters m) n k)) e.truth (have.0 n)
      (number-called have.0 have.1 n below) support.0 support.1 j ((support.2 j).1 rests.1)
