-- A program of each of a text's equations, and what is known of all of them.
use Rattle.std.proofs.Common.{◌≡◌, ℕ, zero, suc, List, [], ◌∷◌, map, length, Some, refl, sym, ap, ◌∙◌, subst}
use Rattle.std.specs.List.{slice_get}
use Rattle.std.proofs.lemmas.List.{length-map}
use Rattle.pb_sorts.specs.declared.carrier.Carrier.{Carrier}
use Rattle.pb_text_meaning.specs.Syntax as syntax
use Rattle.pb_text_meaning.specs.Syntax.{Variable, Spec}
use Rattle.pb_typing_declarations.specs.Shapes.{Shape, sort_shape}
use Rattle.pb_typing_declarations.specs.Entries.{carrier_shape}
use Rattle.pb_bytecode_program.specs.Machine.{Program}
use Rattle.pb_bytecode_program.specs.Counts.{one_step, tokens_of, static_steps, static_tokens}
use Rattle.pb_normal.specs.Equations.{normal_equation}
use Rattle.pb_normal.specs.Loops.{equation_loops, variable_shapes}
use Rattle.pb_normal.specs.Normal.{Formula}
use Rattle.pb_normal.specs.View.{formula_view, right_views, shapes_of}
use Rattle.pb_normal.specs.declared.normal.Equation.{Equation}
use Rattle.pb_assembler_scheme.specs.Scheme.{equation_code, parameters}
use Rattle.pb_assembler_scheme.specs.Correct.{IsCompiled, quantifiers, slots_from}
use Rattle.pb_assembler_scheme.specs.Made.{struct_counts, parameter_shapes, IsMadeOf}
use Rattle.pb_assembler_modules.proofs.StatedCounts.{cost_same}
use Rattle.pb_assembler_measures.specs.MeasureEquations.{IsProgram}
use Rattle.pb_assembler_measures.proofs.MeasureSlots.{equation_quantifiers, slots_long}

-- ---- programs that state their counts

-- with exactly its static counts
abbrev pub stated : Program → Program
stated p = record p { stated_steps = static_steps p; stated_tokens = static_tokens p }

pub steps_stated : (p : Program) → static_steps (stated p) ≡ static_steps p
steps_stated p = cost_same (stated p) p refl refl one_step p.code []

pub tokens_stated : (p : Program) → static_tokens (stated p) ≡ static_tokens p
tokens_stated p = cost_same (stated p) p refl refl tokens_of p.code []

pub stated_compiled : (p : Program) (f : Formula) → p.code ≡ equation_code p.callees f → quantifiers f ≡ slots_from (length p.parameters) p.loops → IsCompiled (stated p) f
stated_compiled p f code slots = record { code = code; slots = slots; steps = sym (steps_stated p); tokens = sym (tokens_stated p) }

-- ---- the equations of a text, and those of its normal form

-- the normal form of an equation
pub record IsNormalForm (spec : Spec) (X : syntax.Equation) (e : Equation) : Type 0 where
  pub right : formula_view e.right ≡ normal_equation spec X
  pub loops : shapes_of e.loops.now ≡ equation_loops spec X

-- the equations of a normal form, and the carriers of their parameters
pub record AreFormsOf (spec : Spec) (E : List syntax.Equation) (css : List (List Carrier)) (es : List Equation) : Type 0 where
  pub rights : right_views es ≡ map (normal_equation spec) E
  pub loops : map (λ (e : Equation). shapes_of e.loops.now) es ≡ map (equation_loops spec) E
  pub parameters : map shapes_of css ≡ parameter_shapes spec E

module _ (spec : Spec) where
  abbrev AreRights : List syntax.Equation → List Equation → Type 0
  AreRights E es = right_views es ≡ map (normal_equation spec) E

  abbrev HaveLoops : List syntax.Equation → List Equation → Type 0
  HaveLoops E es = map (λ (e : Equation). shapes_of e.loops.now) es ≡ map (equation_loops spec) E

  pub form_at : (E : List syntax.Equation) (es : List Equation) → AreRights E es → HaveLoops E es → (k : ℕ) (X : syntax.Equation) → slice_get E k ≡ Some X
      → (e : Equation) × (slice_get es k ≡ Some e) × IsNormalForm spec X e
  form_at [] es r l k X at = cc
  form_at (Y ∷ E) [] r l k X at = cc
  form_at (Y ∷ E) (d ∷ es) r l zero X at = (d, refl, record { right = cc; loops = cc })
  form_at (Y ∷ E) (d ∷ es) r l (suc k) X at =
      let rest : AreRights E es = cc in
      let more : HaveLoops E es = cc in
      form_at E es rest more k X at

  pub text_at : (E : List syntax.Equation) (es : List Equation) → AreRights E es → HaveLoops E es → (k : ℕ) (e : Equation) → slice_get es k ≡ Some e
      → (X : syntax.Equation) × (slice_get E k ≡ Some X) × IsNormalForm spec X e
  text_at E [] r l k e at = cc
  text_at [] (d ∷ es) r l k e at = cc
  text_at (Y ∷ E) (d ∷ es) r l zero e at = (Y, refl, record { right = cc; loops = cc })
  text_at (Y ∷ E) (d ∷ es) r l (suc k) e at =
      let rest : AreRights E es = cc in
      let more : HaveLoops E es = cc in
      text_at E es rest more k e at

  pub parameters_at : (cs : List (List Carrier)) (E : List syntax.Equation) → map shapes_of cs ≡ parameter_shapes spec E → (k : ℕ) (X : syntax.Equation) → slice_get E k ≡ Some X
      → shapes_of (parameters (slice_get cs k)) ≡ variable_shapes spec X.parameters
  parameters_at cs [] e k X at = cc
  parameters_at [] (Y ∷ E) e k X at = cc
  parameters_at (c ∷ cs) (Y ∷ E) e zero X at = cc
  parameters_at (c ∷ cs) (Y ∷ E) e (suc k) X at = let rest : map shapes_of cs ≡ parameter_shapes spec E = cc in parameters_at cs E rest k X at

  -- ---- a program of an equation

  module _ (callees : List (List Carrier)) (parameters loops : List Carrier) (X : syntax.Equation) where
    abbrev bare : Program
    bare = record {
      sorts = struct_counts spec.sorts;
      callees = callees;
      parameters = parameters;
      loops = loops;
      stated_steps = 0;
      stated_tokens = 0;
      code = equation_code callees (normal_equation spec X);
    }

    abbrev pub program : Program
    program = stated bare

    pub program_made : map shapes_of callees ≡ parameter_shapes spec spec.equations
        → shapes_of parameters ≡ variable_shapes spec X.parameters → shapes_of loops ≡ equation_loops spec X → IsMadeOf spec X program
    program_made calls mine each =
        let long : length X.parameters ≡ length parameters =
        sym (length-map X.parameters (λ (x : Variable). sort_shape spec x.sort)) ∙ sym (ap length mine) ∙ length-map parameters (λ (c : Carrier). carrier_shape (Some c)) in
        record {
          compiled = stated_compiled bare (normal_equation spec X) refl (equation_quantifiers spec X loops each ∙ ap (λ n. slots_from n loops) long);
          sorts = refl;
          parameters = mine;
          callees = calls;
        }

  -- ---- all programs that are made of an equation

  pub made_is_program : (cs : List (List Carrier)) (X : syntax.Equation) (e : Equation) (p : Program)
      → map shapes_of cs ≡ parameter_shapes spec spec.equations → IsNormalForm spec X e → IsMadeOf spec X p → IsProgram cs e p
  made_is_program cs X e p calls form made = record {
    compiled = subst (λ (f : Formula). IsCompiled p f) (sym form.right) made.compiled;
    loops =
        sym (slots_long (length p.parameters) p.loops)
        ∙ ap (λ (qs : List (ℕ × Shape)). length qs) (sym made.compiled.slots ∙ equation_quantifiers spec X e.loops.now form.loops)
        ∙ slots_long (length X.parameters) e.loops.now;
    callees = made.callees ∙ sym calls;
  }
