-- The equations of a text that keep the limits may be compiled, and what is compiled is a module of the text.
use Rattle.std.proofs.Common.{◌≡◌, ℕ, suc, ◌≤◌, true, List, [], ◌∷◌, map, length, Some, refl, sym, ap, ◌∙◌, subst, arith}
use Rattle.std.specs.List.{list_all, slice_get}
use Rattle.std.proofs.lemmas.Bool.{and_parts}
use Rattle.std.proofs.lemmas.List.{length-map}
use Rattle.pb_base.specs.declared.limits.TheConstants.{MAX_LOOP_SLOTS}
use Rattle.pb_sorts.specs.declared.carrier.Carrier.{Carrier}
use Rattle.pb_text_tree.specs.Form.{EquationForm}
use Rattle.pb_text_meaning.specs.Erase.{erased_equation}
use Rattle.pb_text_meaning.specs.Syntax as syntax
use Rattle.pb_text_meaning.specs.Syntax.{Spec}
use Rattle.pb_typing_declarations.specs.Entries.{carrier_shape}
use Rattle.pb_bytecode.specs.Contents.{EquationContents, Contents}
use Rattle.pb_bytecode.specs.Meaning.{parameters, program_of}
use Rattle.pb_bytecode.specs.Names.{is_module_name}
use Rattle.pb_bytecode_program.specs.Counts.{one_step, tokens_of}
use Rattle.pb_bytecode_program.specs.Machine.{Program}
use Rattle.pb_normal.specs.Equations.{normal_equation}
use Rattle.pb_normal.specs.Loops.{equation_loops, variable_shapes}
use Rattle.pb_normal.specs.Normal.{Formula}
use Rattle.pb_normal.specs.View.{formula_view, shapes_of}
use Rattle.pb_normal.specs.declared.normal.Equation.{Equation}
use Rattle.pb_assembler_scheme.specs.Correct.{IsCompiled, quantifiers}
use Rattle.pb_assembler_scheme.specs.Scheme.{equation_code}
use Rattle.pb_assembler_scheme.specs.Limits.{KeepsLimits}
use Rattle.pb_assembler_scheme.proofs.Limits.{within_limits, keeps_limits}
use Rattle.pb_assembler_scheme.specs.Made.{IsMadeOf, parameter_shapes}
use Rattle.pb_assembler_modules.specs.Module.{AreEquationsOf}
use Rattle.pb_assembler.specs.Compiled.{bare_program, compiled_contents, all_compiled, IsReadyToCompile, AreReady}
use Rattle.pb_normal.specs.Small.{is_small_formula}
use Rattle.pb_assembler_modules.proofs.StatedCounts.{cost_same}
use Rattle.pb_assembler_measures.proofs.MeasureMade.{AreFormsOf, program, program_made}

-- what is known of each of the equations
pub record AreSound (spec : Spec) (E : List syntax.Equation) : Type 0 where
  pub kept : (k : ℕ) (X : syntax.Equation) → slice_get E k ≡ Some X → (p : Program) → IsMadeOf spec X p → KeepsLimits p (normal_equation spec X)
  pub small : (k : ℕ) (X : syntax.Equation) → slice_get E k ≡ Some X → length (equation_loops spec X) ≤ MAX_LOOP_SLOTS → is_small_formula (normal_equation spec X) ≡ true
  pub named : list_all (λ (X : syntax.Equation). is_module_name X.name) E ≡ true

later : (spec : Spec) (X : syntax.Equation) (E : List syntax.Equation) → AreSound spec (X ∷ E) → AreSound spec E
later spec X E h = record {
  kept = λ k Y at. h.kept (suc k) Y at;
  small = λ k Y at. h.small (suc k) Y at;
  named = (and_parts (is_module_name X.name) (list_all (λ (Y : syntax.Equation). is_module_name Y.name) E) h.named).1;
}

module _ (spec : Spec) (callees : List (List Carrier)) (calls : map shapes_of callees ≡ parameter_shapes spec spec.equations) where
  module _ (X : syntax.Equation) (cs : List Carrier) (e : Equation) (right : formula_view e.right ≡ normal_equation spec X) (loops : shapes_of e.loops.now ≡ equation_loops spec X) where
    abbrev coded : Formula → Program
    coded f = record (bare_program callees cs e) { code = equation_code callees f }

    kept_bare : KeepsLimits (program spec callees cs e.loops.now X) (normal_equation spec X) → KeepsLimits (bare_program callees cs e) (formula_view e.right)
    kept_bare k =
        let P = program spec callees cs e.loops.now X in
        let N = normal_equation spec X in
        let steps = cost_same (coded N) P refl refl one_step (equation_code callees N) [] in
        let tokens = cost_same (coded N) P refl refl tokens_of (equation_code callees N) [] in
        let w = within_limits P N k in
        let few_steps = w.steps in
        let few_tokens = w.tokens in
        let here : KeepsLimits (coded N) N = keeps_limits (coded N) N (record {
          instructions = w.instructions;
          operands = w.operands;
          brackets = w.brackets;
          nesting = w.nesting;
          slots = w.slots;
          steps = omega (arith, steps, few_steps);
          tokens = omega (arith, tokens, few_tokens);
        }) in
        subst (λ (f : Formula). KeepsLimits (coded f) f) (sym right) here

  pub ready : (E : List EquationForm) (css : List (List Carrier)) (es : List Equation)
      → AreFormsOf spec (map erased_equation E) css es → AreSound spec (map erased_equation E) → AreReady callees css E es
  ready [] [] [] f s = tt
  ready [] (cs ∷ css) es f s = let a = f.parameters in cc
  ready [] [] (e ∷ es) f s = let a = f.rights in cc
  ready (t ∷ E) [] es f s = let a = f.parameters in cc
  ready (t ∷ E) (cs ∷ css) [] f s = let a = f.rights in cc
  ready (t ∷ E) (cs ∷ css) (e ∷ es) f s =
      let X = erased_equation t in
      let a = f.rights in
      let b = f.loops in
      let d = f.parameters in
      let right : formula_view e.right ≡ normal_equation spec X = cc in
      let loops : shapes_of e.loops.now ≡ equation_loops spec X = cc in
      let parameters : shapes_of cs ≡ variable_shapes spec X.parameters = cc in
      let made = program_made spec callees cs e.loops.now X calls parameters loops in
      let kept = s.kept 0 X refl (program spec callees cs e.loops.now X) made in
      let few = (within_limits (program spec callees cs e.loops.now X) (normal_equation spec X) kept).slots in
      let count = ap length loops in
      let rest : AreFormsOf spec (map erased_equation E) css es = record { rights = cc; loops = cc; parameters = cc } in (
        record {
          named = (and_parts (is_module_name X.name) (list_all (λ (Y : syntax.Equation). is_module_name Y.name) (map erased_equation E)) s.named).0;
          small = subst (λ (g : Formula). is_small_formula g ≡ true) (sym right) (s.small 0 X refl (omega (arith, few, count, length-map e.loops.now (λ (c : Carrier). carrier_shape (Some c)))));
          slots = ap quantifiers right ∙ made.compiled.slots;
          kept = kept_bare X cs e right loops kept;
        },
        ready E css es rest (later spec X (map erased_equation E) s),
      )

  -- ---- what is compiled

  pub compiled_parameters : (E : List EquationForm) (css : List (List Carrier)) (es : List Equation)
      → AreReady callees css E es → map (λ (e : EquationContents). e.parameters) (all_compiled callees css E es) ≡ css
  compiled_parameters [] [] [] r = refl
  compiled_parameters [] (cs ∷ css) [] r = absurd r
  compiled_parameters [] (cs ∷ css) (e ∷ es) r = absurd r
  compiled_parameters [] [] (e ∷ es) r = absurd r
  compiled_parameters (t ∷ E) [] [] r = absurd r
  compiled_parameters (t ∷ E) [] (e ∷ es) r = absurd r
  compiled_parameters (t ∷ E) (cs ∷ css) [] r = absurd r
  compiled_parameters (t ∷ E) (cs ∷ css) (e ∷ es) r = ap (λ (ds : List (List Carrier)). cs ∷ ds) (compiled_parameters E css es r.1)

  module _ (m : Contents) (all : parameters m ≡ callees) where
    compiled_one : (t : EquationForm) (cs : List Carrier) (e : Equation) → formula_view e.right ≡ normal_equation spec (erased_equation t) → IsReadyToCompile callees cs t e
        → IsCompiled (program_of m (compiled_contents callees cs t e)) (normal_equation spec (erased_equation t))
    compiled_one t cs e right r =
        let c = compiled_contents callees cs t e in
        let f = formula_view e.right in
        record {
          code = ap (equation_code callees) right ∙ ap (λ (ds : List (List Carrier)). equation_code ds (normal_equation spec (erased_equation t))) (sym all);
          slots = ap quantifiers (sym right) ∙ r.slots;
          steps = cost_same (bare_program callees cs e) (program_of m c) refl refl one_step (equation_code callees f) [];
          tokens = cost_same (bare_program callees cs e) (program_of m c) refl refl tokens_of (equation_code callees f) [];
        }

    pub are_equations : (E : List EquationForm) (css : List (List Carrier)) (es : List Equation) → AreFormsOf spec (map erased_equation E) css es → AreReady callees css E es
        → AreEquationsOf spec m (map erased_equation E) (all_compiled callees css E es)
    are_equations [] css es f r = none css es
      where
        none : (css : List (List Carrier)) (es : List Equation) → AreEquationsOf spec m [] (all_compiled callees css [] es)
        none [] es = tt
        none (cs ∷ css) es = tt
    are_equations (t ∷ E) [] es f r = let d = f.parameters in cc
    are_equations (t ∷ E) (cs ∷ css) [] f r = let a = f.rights in cc
    are_equations (t ∷ E) (cs ∷ css) (e ∷ es) f r =
        let X = erased_equation t in
        let a = f.rights in
        let b = f.loops in
        let d = f.parameters in
        let right : formula_view e.right ≡ normal_equation spec X = cc in
        let parameters : shapes_of cs ≡ variable_shapes spec X.parameters = cc in
        let rest : AreFormsOf spec (map erased_equation E) css es = record { rights = cc; loops = cc; parameters = cc } in (
          record { sign = refl; name = refl; parameters = parameters; compiled = compiled_one t cs e right r.0 },
          are_equations E css es rest r.1,
        )
