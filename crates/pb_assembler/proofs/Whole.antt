-- The module that is compiled, as a whole.
use Rattle.std.proofs.Common.{◌≡◌, ℕ, ◌+◌, true, List, map, length, Option, Some, refl, sym, ap, ◌∙◌, subst, arith}
use Rattle.std.specs.Prelude.{nat_le}
use Rattle.std.specs.List.{list_all, slice_get, All}
use Rattle.std.proofs.lemmas.List.{length-map}
use Rattle.std.proofs.lemmas.Bool.{and_parts, and_from, le-leb}
use Rattle.std.proofs.lemmas.Option.{slice_get_within, get_or_from_slice_get}
use Rattle.pb_base_values.specs.Carrier as carriers
use Rattle.pb_base_values.specs.Carrier.{is_within}
use Rattle.pb_base.specs.declared.limits.TheConstants.{MAX_STRUCTS, MAX_EQUATIONS}
use Rattle.pb_sorts.specs.declared.counting.TheConstants.{MAX_NUMBERS}
use Rattle.pb_sorts.specs.Carrier.{values_of}
use Rattle.pb_sorts.specs.declared.carrier.Carrier.{Carrier}
use Rattle.pb_text_tree.specs.Form.{SpecForm, spec_form}
use Rattle.pb_text_meaning.specs.Erase.{erase, erased_equation}
use Rattle.pb_text_meaning.specs.Formula.{carriers_of}
use Rattle.pb_text_meaning.specs.Syntax as syntax
use Rattle.pb_typing.specs.Typed.{is_faultless}
use Rattle.pb_bytecode.specs.Contents.{SortContents, EquationContents, InitialContents, Contents, counts}
use Rattle.pb_bytecode.specs.Limits.{is_byte, is_i64, fits_sort, fits_equation, instance_count, parameters_if_any, is_tuple, fits_initial, fits}
use Rattle.pb_bytecode.specs.Meaning.{parameters}
use Rattle.pb_bytecode.specs.Names.{is_module_name}
use Rattle.pb_bytecode_program.specs.declared.version.Version.TheVariants as version
use Rattle.pb_normal.specs.Bounds.{HasBounds, IsSmallWhereLoopsAreFew}
use Rattle.pb_normal.specs.InitialPlace.{initial_place, initial_values, HasInitial}
use Rattle.pb_normal.specs.Structs.{struct_counts, AreFew, HasDeclaredShapes}
use Rattle.pb_normal.specs.Text.{said}
use Rattle.pb_normal.specs.View.{shapes_of}
use Rattle.pb_normal.specs.declared.normal.Equation.{Equation}
use Rattle.pb_normal.specs.declared.normal.Normal.{Normal}
use Rattle.pb_normal.proofs.FormulaSet.{rights-are}
use Rattle.pb_typing.proofs.Accepted.{accepted-well-typed}
use Rattle.pb_assembler_scheme.specs.Made.{parameter_shapes}
use Rattle.pb_assembler_modules.specs.Module.{struct_names, AreEquationsOf, IsCompiledModule, KeepsAllLimits}
use Rattle.pb_assembler_modules.proofs.Modules.{counted as counted_structs}
use Rattle.pb_assembler.specs.Compiled.{all_compiled, has_fitting_carriers, AreReady}
use Rattle.pb_assembler_measures.specs.MeasureEquations.{EachKeepsLimits}
use Rattle.pb_assembler.proofs.Names.{has_enumerator_names, has_names, text_named}
use Rattle.pb_assembler.proofs.Fits.{AreKnown, sorts_fit, between, callees_fit, equations_fit, compiled_long, instances_same, compiled_at}
use Rattle.pb_assembler_measures.proofs.MeasureExcess.{module_keeps}
use Rattle.pb_assembler_measures.proofs.MeasureMade.{AreFormsOf}
use Rattle.pb_assembler.proofs.Ready.{AreSound, ready, compiled_parameters, are_equations}

of_each : {X : Type 0} (P : X → Type 0) (xs : List X) → All P xs → (k : ℕ) (x : X) → slice_get xs k ≡ Some x → P x
of_each P xs all k x at = subst P (get_or_from_slice_get xs k x x at) (all k x (slice_get_within xs k x at))

-- what a text's normal form keeps
pub record IsKept (normal : Normal) : Type 0 where
  pub kept : EachKeepsLimits (said normal.typed.now)
  pub small : All (IsSmallWhereLoopsAreFew (said normal.typed.now)) (said normal.typed.now).equations

-- the parts of a module that is made of a normal form
pub record AreParts (normal : Normal) (S : List SortContents) (Q : List EquationContents) (I : InitialContents) : Type 0 where
  pub sorts : S ≡ struct_names (said normal.typed.now).sorts
  pub equations : Q ≡ all_compiled normal.typed.now.layout normal.typed.now.layout (spec_form normal.typed.now.spec).equations normal.equations.items
  pub place : I.equation ≡ initial_place (said normal.typed.now)
  pub values : I.values ≡ initial_values (said normal.typed.now)

pub normal_named : (normal : Normal) → has_names (said normal.typed.now) ≡ true
normal_named normal =
    let typed = normal.typed.now in
    text_named typed.spec (accepted-well-typed (spec_form typed.spec) typed.faultless).declarations

module _ (normal : Normal) (kept : IsKept normal) where
  abbrev text : SpecForm
  text = spec_form normal.typed.now.spec

  abbrev callees : List (List Carrier)
  callees = normal.typed.now.layout

  abbrev es : List Equation
  es = normal.equations.items

  faultless : is_faultless text ≡ true
  faultless = normal.typed.now.faultless

  declared : map shapes_of callees ≡ parameter_shapes (erase text) (erase text).equations
  declared = normal.typed.now.laid_out.shapes

  both_named : (list_all has_enumerator_names (erase text).sorts ≡ true) × (list_all (λ (X : syntax.Equation). is_module_name X.name) (erase text).equations ≡ true)
  both_named = and_parts (list_all has_enumerator_names (erase text).sorts) (list_all (λ (X : syntax.Equation). is_module_name X.name) (erase text).equations) (normal_named normal)

  forms : AreFormsOf (erase text) (map erased_equation text.equations) callees es
  forms = record { rights = rights-are normal; loops = normal.loops; parameters = declared }

  sound : AreSound (erase text) (map erased_equation text.equations)
  sound = record { kept = kept.kept; small = λ k X at. of_each (IsSmallWhereLoopsAreFew (erase text)) (erase text).equations kept.small k X at; named = both_named.1 }

  pub all_ready : AreReady callees callees text.equations es
  all_ready = ready (erase text) callees declared text.equations callees es forms sound

  module _ (S : List SortContents) (Q : List EquationContents) (I : InitialContents) (parts : AreParts normal S Q I) where
    abbrev whole : Contents
    whole = record { version = version.One; sorts = S; equations = Q; initial = I }

    pub parameters_are : parameters whole ≡ callees
    parameters_are =
        ap (λ (cs : List EquationContents). map (λ (e : EquationContents). e.parameters) cs) parts.equations
        ∙ compiled_parameters (erase text) callees declared text.equations callees es all_ready

    pub compiled : IsCompiledModule (erase text) whole
    compiled = record {
      version = refl;
      sorts = parts.sorts;
      equations =
          subst (λ (cs : List EquationContents). AreEquationsOf (erase text) whole (erase text).equations cs) (sym parts.equations)
          (are_equations (erase text) callees declared whole parameters_are text.equations callees es forms all_ready);
      initial = parts.place;
      values = parts.values;
    }

    pub keeps : KeepsAllLimits (erase text) whole
    keeps = module_keeps (erase text) whole compiled kept.kept

    module _ (fields : list_all has_fitting_carriers Q ≡ true) (byte : is_byte I.equation ≡ true) (words : list_all is_i64 I.values ≡ true)
        (few : AreFew (struct_counts (erase text).sorts))
        (shapes : All (HasDeclaredShapes (erase text)) (erase text).equations)
        (bounds : All (HasBounds (erase text)) (erase text).equations) (there : HasInitial (erase text)) where
      counted : struct_counts (erase text).sorts ≡ counts S
      counted = sym (ap counts parts.sorts ∙ counted_structs (erase text).sorts)

      few_here : AreFew (counts S)
      few_here = subst AreFew counted few

      known : AreKnown (erase text) (map erased_equation text.equations)
      known = record { shapes = shapes; bounds = bounds; parameters = (accepted-well-typed text faultless).declarations.few_parameters }

      all_fields : list_all has_fitting_carriers (all_compiled callees callees text.equations es) ≡ true
      all_fields = subst (λ (cs : List EquationContents). list_all has_fitting_carriers cs ≡ true) parts.equations fields

      sorts_within : list_all fits_sort S ≡ true
      sorts_within = subst (λ (ss : List SortContents). list_all fits_sort ss ≡ true) (sym parts.sorts) (sorts_fit (erase text).sorts few.enumerators both_named.0)

      equations_within : list_all (fits_equation version.One (counts S)) Q ≡ true
      equations_within =
          subst (λ (cs : List EquationContents). list_all (fits_equation version.One (counts S)) cs ≡ true) (sym parts.equations)
          (equations_fit (erase text) (counts S) counted few_here callees
          (callees_fit (erase text) (counts S) counted few_here callees text.equations callees es forms all_ready known all_fields)
          text.equations callees es forms all_ready known all_fields)

      instances_within : nat_le (instance_count Q) MAX_NUMBERS ≡ true
      instances_within =
          let e = ap instance_count parts.equations ∙ instances_same (erase text) callees text.equations callees es declared all_ready in
          let d = (accepted-well-typed text faultless).declarations.few_instances in
          le-leb (instance_count Q) MAX_NUMBERS (omega (arith, e, d))

      initial_within : fits_initial Q I ≡ true
      initial_within =
          let at = compiled_at (erase text) callees text.equations callees es declared all_ready (initial_place (erase text)) there.equation there.there in
          let here : slice_get Q I.equation ≡ Some at.0 =
          ap (λ (cs : List EquationContents). slice_get cs I.equation) parts.equations
          ∙ ap (slice_get (all_compiled callees callees text.equations es)) parts.place ∙ at.1 in
          let inside : is_within (map values_of at.0.parameters) I.values ≡ true =
          ap (λ (vs : List carriers.Carrier). is_within vs I.values) at.2 ∙ ap (is_within (carriers_of (erase text) there.equation.parameters)) parts.values ∙ there.within in
          and_from _ _ byte (ap (λ (o : Option EquationContents). is_tuple (parameters_if_any o) I.values) here ∙ and_from _ _ words inside)

      pub whole_fits : fits whole ≡ true
      whole_fits =
          let sort_count = length-map S (λ (names : SortContents). length names) in
          let sorts_few = few_here.structs in
          let long = ap length parts.equations ∙ compiled_long (erase text) callees text.equations callees es all_ready in
          let few_equations = (accepted-well-typed text faultless).declarations.few_equations in
          let some = slice_get_within (erase text).equations (initial_place (erase text)) there.equation there.there in
          and_from _ _ (and_from _ _ (between 0 (MAX_STRUCTS + 1) (length S) (omega arith) (omega (arith, sort_count, sorts_few))) sorts_within)
          (and_from _ _ (and_from _ _ (between 1 (MAX_EQUATIONS + 1) (length Q) (omega (arith, long, some)) (omega (arith, long, few_equations))) equations_within)
          (and_from _ _ instances_within initial_within))
