-- The module that is compiled is within the limits of the format.
use Rattle.std.proofs.Common.{◌≡◌, ℕ, zero, suc, ◌+◌, ◌<◌, ◌≤◌, ◌^◌, true, List, [], ◌∷◌, map, length, Some, refl, sym, ap, ◌∙◌, subst, arith}
use Rattle.std.specs.Prelude.{unwrap_or}
use Rattle.std.specs.List.{list_all, slice_get, All}
use Rattle.std.proofs.lemmas.Bool.{and_parts, and_from, lt-ltb, le-leb, eq-eqb}
use Rattle.std.proofs.lemmas.List.{length-map}
use Rattle.std.proofs.lemmas.List.Folds.{list_all-map}
use Rattle.pb_base_values.specs.Carrier.{tuple_count}
use Rattle.pb_base_values.proofs.Ends.{from_le}
use Rattle.pb_base.specs.declared.limits.TheConstants.{MAX_ENUMERATORS, MAX_PARAMETERS, MAX_LOOP_SLOTS, MAX_INSTRUCTIONS}
use Rattle.pb_sorts.specs.Carrier.{values_of}
use Rattle.pb_sorts.specs.declared.carrier.Carrier.{Carrier}
use Rattle.pb_sorts.specs.declared.carrier.Carrier.TheVariants as carrier
use Rattle.pb_text_tree.specs.Form.{EquationForm}
use Rattle.pb_text_meaning.specs.Erase.{erased_equation}
use Rattle.pb_text_meaning.specs.Formula.{carriers_of}
use Rattle.pb_text_meaning.specs.Syntax as syntax
use Rattle.pb_text_meaning.specs.Syntax.{Enumerator, Sort, Struct, Alias, SortDeclaration, Variable, Spec}
use Rattle.pb_typing_declarations.specs.Entries.{carrier_shape}
use Rattle.pb_typing_declarations.specs.Instances.{all_instances}
use Rattle.pb_typing_declarations.specs.Shapes.{Shape, sort_shape}
use Rattle.pb_typing_declarations.specs.WellDeclared.{enumerators}
use Rattle.pb_bytecode.specs.Contents.{EquationContents}
use Rattle.pb_bytecode.specs.Limits.{is_between, enumerator_count, fits_sort, fits_carrier, fits_equation, instance_count}
use Rattle.pb_bytecode.specs.Names.{is_module_name}
use Rattle.pb_bytecode_program.specs.declared.version.Version.TheVariants as version
use Rattle.pb_bytecode_program.specs.Counts.{static_steps, static_tokens}
use Rattle.pb_normal.specs.Bounds.{HasBounds, bounds_of, is_bounded_formula}
use Rattle.pb_normal.specs.Equations.{normal_equation}
use Rattle.pb_normal.specs.Loops.{equation_loops, variable_shapes}
use Rattle.pb_normal.specs.Normal.{Formula}
use Rattle.pb_normal.specs.Structs.{with_count, struct_counts, AreFew, IsDeclaredShape, HasDeclaredShapes}
use Rattle.pb_normal.specs.View.{formula_view, shapes_of}
use Rattle.pb_normal.specs.declared.normal.Equation.{Equation}
use Rattle.pb_assembler_scheme.specs.Scheme.{equation_code}
use Rattle.pb_assembler_scheme.proofs.Limits.{within_limits}
use Rattle.pb_assembler_scheme.proofs.TextEquations.{all_values}
use Rattle.pb_assembler_modules.specs.Module.{with_names, struct_names}
use Rattle.pb_assembler.specs.Compiled.{bare_program, compiled_contents, all_compiled, has_fitting_fields, has_fitting_carriers, IsReadyToCompile, AreReady}
use Rattle.pb_assembler.proofs.Names.{has_enumerator_names}
use Rattle.pb_assembler.proofs.Fitting.{code_fits, code_some}
use Rattle.pb_assembler_measures.proofs.MeasureMade.{AreFormsOf}

pub between : (low end n : ℕ) → low ≤ n → n < end → is_between low end n ≡ true
between low end n l h = and_from _ _ (le-leb low n l) (lt-ltb n end h)

-- ---- sorts

abbrev Few : List ℕ → Type 0
Few ns = All (λ (n : ℕ). (0 < n) × (n ≤ MAX_ENUMERATORS)) ns

pub names_fit : (es : List Enumerator) → (0 < length es) × (length es ≤ MAX_ENUMERATORS)
    → list_all (λ (e : Enumerator). is_module_name e.name) es ≡ true → fits_sort (map (λ (e : Enumerator). e.name) es) ≡ true
names_fit es few named =
    let count = length-map es (λ (e : Enumerator). e.name) in
    let some = few.0 in
    let most = few.1 in
    and_from _ _ (between 1 (MAX_ENUMERATORS + 1) (length (map (λ (e : Enumerator). e.name) es)) (omega arith) (omega arith)) (list_all-map is_module_name (λ (e : Enumerator). e.name) es ∙ named)

pub sorts_fit : (ds : List SortDeclaration) → Few (struct_counts ds) → list_all has_enumerator_names ds ≡ true → list_all fits_sort (struct_names ds) ≡ true
sorts_fit [] few named = refl
sorts_fit (d ∷ ds) few named = let two = and_parts (has_enumerator_names d) (list_all has_enumerator_names ds) named in by d.sort few two.0 (λ f. sorts_fit ds f two.1)
  where
    by : (s : Sort) → Few (with_count s (struct_counts ds)) → list_all (λ (e : Enumerator). is_module_name e.name) (enumerators s) ≡ true
        → (Few (struct_counts ds) → list_all fits_sort (struct_names ds) ≡ true) → list_all fits_sort (with_names s (struct_names ds)) ≡ true
    by (Struct es) few named go = and_from _ _ (names_fit es (few 0 (length es) (omega arith)) named) (go (λ i n b. few (suc i) n (omega arith)))
    by (Alias t) few named go = go few

-- ---- carriers

carrier_fits : (sizes : List ℕ) (c : Carrier) → IsDeclaredShape sizes (carrier_shape (Some c)) → has_fitting_fields c ≡ true → fits_carrier sizes c ≡ true
carrier_fits sizes carrier.Bool h f = refl
carrier_fits sizes (carrier.Enum e) h f = let n = ap (λ o. unwrap_or o 0) h.0 in and_from _ _ f (eq-eqb e.count (enumerator_count sizes e.sort) (sym n))
carrier_fits sizes (carrier.Range r) h f = and_from _ _ f (from_le r.low r.high h)

carriers_fit : (sizes : List ℕ) (cs : List Carrier) (ss : List Shape) → shapes_of cs ≡ ss
    → All (IsDeclaredShape sizes) ss → list_all has_fitting_fields cs ≡ true → list_all (fits_carrier sizes) cs ≡ true
carriers_fit sizes [] ss e all f = refl
carriers_fit sizes (c ∷ cs) [] e all f = cc
carriers_fit sizes (c ∷ cs) (s ∷ ss) e all f =
    let two = and_parts (has_fitting_fields c) (list_all has_fitting_fields cs) f in
    let here : carrier_shape (Some c) ≡ s = cc in
    let rest : shapes_of cs ≡ ss = cc in
    and_from _ _ (carrier_fits sizes c (subst (IsDeclaredShape sizes) (sym here) (all 0 s (omega arith))) two.0) (carriers_fit sizes cs ss rest (λ i t b. all (suc i) t (omega arith)) two.1)

-- ---- equations

module _ (spec : Spec) where
  -- what is known of each of the equations
  pub record AreKnown (E : List syntax.Equation) : Type 0 where
    pub shapes : All (HasDeclaredShapes spec) E
    pub bounds : All (HasBounds spec) E
    pub parameters : All (λ (X : syntax.Equation). length X.parameters ≤ MAX_PARAMETERS) E

  later : (X : syntax.Equation) (E : List syntax.Equation) → AreKnown (X ∷ E) → AreKnown E
  later X E h = record { shapes = λ i Y b. h.shapes (suc i) Y (omega arith); bounds = λ i Y b. h.bounds (suc i) Y (omega arith); parameters = λ i Y b. h.parameters (suc i) Y (omega arith) }

module _ (spec : Spec) (sizes : List ℕ) (same : struct_counts spec.sorts ≡ sizes) (few : AreFew sizes) (callees : List (List Carrier)) where
  parameters_fit : (X : syntax.Equation) (cs : List Carrier) → HasDeclaredShapes spec X
      → shapes_of cs ≡ variable_shapes spec X.parameters → list_all has_fitting_fields cs ≡ true → list_all (fits_carrier sizes) cs ≡ true
  parameters_fit X cs h e f = carriers_fit sizes cs (variable_shapes spec X.parameters) e (subst (λ (ns : List ℕ). All (IsDeclaredShape ns) (variable_shapes spec X.parameters)) same h.parameters) f

  -- the carriers of all parameters
  pub callees_fit : (E : List EquationForm) (css : List (List Carrier)) (es : List Equation)
      → AreFormsOf spec (map erased_equation E) css es → AreReady callees css E es → AreKnown spec (map erased_equation E)
      → list_all has_fitting_carriers (all_compiled callees css E es) ≡ true → (k : ℕ) (ds : List Carrier) → slice_get css k ≡ Some ds → list_all (fits_carrier sizes) ds ≡ true
  callees_fit E [] es f r known fields k ds at = cc
  callees_fit [] (cs ∷ css) es f r known fields k ds at = let a = f.parameters in cc
  callees_fit (t ∷ E) (cs ∷ css) [] f r known fields k ds at = let a = f.rights in cc
  callees_fit (t ∷ E) (cs ∷ css) (e ∷ es) f r known fields zero ds at =
      let d = f.parameters in
      let parameters : shapes_of cs ≡ variable_shapes spec (erased_equation t).parameters = cc in
      let two = and_parts (has_fitting_carriers (compiled_contents callees cs t e)) (list_all has_fitting_carriers (all_compiled callees css E es)) fields in
      let both = and_parts (list_all has_fitting_fields cs) (list_all has_fitting_fields e.loops.now) two.0 in
      let is : cs ≡ ds = cc in
      subst (λ (xs : List Carrier). list_all (fits_carrier sizes) xs ≡ true) is (parameters_fit (erased_equation t) cs (known.shapes 0 (erased_equation t) (omega arith)) parameters both.0)
  callees_fit (t ∷ E) (cs ∷ css) (e ∷ es) f r known fields (suc k) ds at =
      let a = f.rights in
      let b = f.loops in
      let d = f.parameters in
      let two = and_parts (has_fitting_carriers (compiled_contents callees cs t e)) (list_all has_fitting_carriers (all_compiled callees css E es)) fields in
      callees_fit E css es (record { rights = cc; loops = cc; parameters = cc }) r.1 (later spec (erased_equation t) (map erased_equation E) known) two.1 k ds at

  module _ (callees_are : (k : ℕ) (ds : List Carrier) → slice_get callees k ≡ Some ds → list_all (fits_carrier sizes) ds ≡ true) where
    equation_fits : (t : EquationForm) (cs : List Carrier) (e : Equation)
        → formula_view e.right ≡ normal_equation spec (erased_equation t) → shapes_of e.loops.now ≡ equation_loops spec (erased_equation t)
        → shapes_of cs ≡ variable_shapes spec (erased_equation t).parameters → IsReadyToCompile callees cs t e
        → HasDeclaredShapes spec (erased_equation t) → HasBounds spec (erased_equation t) → length (erased_equation t).parameters ≤ 8
        → has_fitting_carriers (compiled_contents callees cs t e) ≡ true → fits_equation version.One sizes (compiled_contents callees cs t e) ≡ true
    equation_fits t cs e right loops parameters r shapes bounds eight fields =
        let X = erased_equation t in
        let both = and_parts (list_all has_fitting_fields cs) (list_all has_fitting_fields e.loops.now) fields in
        let count = ap length parameters in
        let long = length-map cs (λ (c : Carrier). carrier_shape (Some c)) in
        let wide = length-map X.parameters (λ (x : Variable). sort_shape spec x.sort) in
        let f = formula_view e.right in
        let kept = within_limits (bare_program callees cs e) f r.kept in
        let slots = kept.slots in
        let steps = kept.steps in
        let tokens = kept.tokens in
        let code = kept.instructions in
        let bounded = subst (λ (g : Formula). is_bounded_formula (bounds_of spec X) g ≡ true) (sym right) bounds in
        and_from _ _ r.named
        (and_from _ _ (and_from _ _ (between 0 (MAX_PARAMETERS + 1) (length cs) (omega arith) (omega arith)) (parameters_fit X cs shapes parameters both.0))
        (and_from _ _
        (and_from _ _ (between 0 (MAX_LOOP_SLOTS + 1) (length e.loops.now) (omega arith) (omega arith))
        (carriers_fit sizes e.loops.now (equation_loops spec X) loops
        (subst (λ (ns : List ℕ). All (IsDeclaredShape ns) (equation_loops spec X)) same shapes.loops) both.1))
        (and_from _ _ (lt-ltb (static_steps (bare_program callees cs e)) (2 ^ 32) (omega (arith, steps)))
        (and_from _ _ (lt-ltb (static_tokens (bare_program callees cs e)) (2 ^ 32) (omega (arith, tokens)))
        (and_from _ _
        (between 1 (MAX_INSTRUCTIONS + 1) (length (equation_code callees f))
        (code_some sizes few (bounds_of spec X) same callees callees_are f) (omega (arith, code)))
        (code_fits sizes few (bounds_of spec X) same callees callees_are f r.small bounded code))))))

    pub equations_fit : (E : List EquationForm) (css : List (List Carrier)) (es : List Equation)
        → AreFormsOf spec (map erased_equation E) css es → AreReady callees css E es → AreKnown spec (map erased_equation E)
        → list_all has_fitting_carriers (all_compiled callees css E es) ≡ true → list_all (fits_equation version.One sizes) (all_compiled callees css E es) ≡ true
    equations_fit [] [] es f r known fields = refl
    equations_fit [] (cs ∷ css) es f r known fields = refl
    equations_fit (t ∷ E) [] es f r known fields = refl
    equations_fit (t ∷ E) (cs ∷ css) [] f r known fields = refl
    equations_fit (t ∷ E) (cs ∷ css) (e ∷ es) f r known fields =
        let X = erased_equation t in
        let a = f.rights in
        let b = f.loops in
        let d = f.parameters in
        let right : formula_view e.right ≡ normal_equation spec X = cc in
        let loops : shapes_of e.loops.now ≡ equation_loops spec X = cc in
        let parameters : shapes_of cs ≡ variable_shapes spec X.parameters = cc in
        let two = and_parts (has_fitting_carriers (compiled_contents callees cs t e)) (list_all has_fitting_carriers (all_compiled callees css E es)) fields in
        and_from _ _
        (equation_fits t cs e right loops parameters r.0 (known.shapes 0 X (omega arith)) (known.bounds 0 X (omega arith)) (known.parameters 0 X (omega arith)) two.0)
        (equations_fit E css es (record { rights = cc; loops = cc; parameters = cc }) r.1 (later spec X (map erased_equation E) known) two.1)

-- ---- instances

module _ (spec : Spec) (callees : List (List Carrier)) where
  pub compiled_long : (E : List EquationForm) (css : List (List Carrier)) (es : List Equation) → AreReady callees css E es → length (all_compiled callees css E es) ≡ length (map erased_equation E)
  compiled_long [] [] es r = refl
  compiled_long [] (cs ∷ css) es r = refl
  compiled_long (t ∷ E) [] [] r = absurd r
  compiled_long (t ∷ E) [] (e ∷ es) r = absurd r
  compiled_long (t ∷ E) (cs ∷ css) [] r = absurd r
  compiled_long (t ∷ E) (cs ∷ css) (e ∷ es) r = ap suc (compiled_long E css es r.1)

  pub instances_same : (E : List EquationForm) (css : List (List Carrier)) (es : List Equation)
      → map shapes_of css ≡ map (λ (X : syntax.Equation). variable_shapes spec X.parameters) (map erased_equation E)
      → AreReady callees css E es
      → instance_count (all_compiled callees css E es) ≡ all_instances spec (map erased_equation E)
  instances_same [] [] es d r = refl
  instances_same [] (cs ∷ css) es d r = cc
  instances_same (t ∷ E) [] es d r = cc
  instances_same (t ∷ E) (cs ∷ css) [] d r = absurd r
  instances_same (t ∷ E) (cs ∷ css) (e ∷ es) d r =
      let X = erased_equation t in
      let parameters : shapes_of cs ≡ variable_shapes spec X.parameters = cc in
      let first = ap tuple_count (all_values spec cs X.parameters parameters) in
      let rest = instances_same E css es (cc) r.1 in
      cc

  -- the equation at a place, with its carriers
  pub compiled_at : (E : List EquationForm) (css : List (List Carrier)) (es : List Equation)
      → map shapes_of css ≡ map (λ (X : syntax.Equation). variable_shapes spec X.parameters) (map erased_equation E)
      → AreReady callees css E es
      → (k : ℕ) (X : syntax.Equation) → slice_get (map erased_equation E) k ≡ Some X
      → (e : EquationContents) × (slice_get (all_compiled callees css E es) k ≡ Some e)
      × (map values_of e.parameters ≡ carriers_of spec X.parameters)
  compiled_at [] css es d r k X at = cc
  compiled_at (t ∷ E) [] es d r k X at = cc
  compiled_at (t ∷ E) (cs ∷ css) [] d r k X at = absurd r
  compiled_at (t ∷ E) (cs ∷ css) (e ∷ es) d r zero X at =
      let parameters : shapes_of cs ≡ variable_shapes spec (erased_equation t).parameters = cc in
      let is : erased_equation t ≡ X = cc in
      (compiled_contents callees cs t e, refl, all_values spec cs (erased_equation t).parameters parameters ∙ ap (λ (Y : syntax.Equation). carriers_of spec Y.parameters) is)
  compiled_at (t ∷ E) (cs ∷ css) (e ∷ es) d r (suc k) X at = compiled_at E css es (cc) r.1 k X at
