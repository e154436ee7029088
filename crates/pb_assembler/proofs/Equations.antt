-- The equations of a module, one by one.
use Rattle.std.proofs.Common.{◌≡◌, ℕ, zero, suc, ◌+◌, ◌<◌, ◌≤◌, List, [], ◌∷◌, ◌++◌, map, length, get_or, drop, Some, refl, sym, ap, ◌∙◌, subst, arith, true}
use Rattle.std.specs.List.{list_all, slice_get}
use Rattle.std.proofs.lemmas.List.{append_assoc, append-nil, map_push, drop_all}
use Rattle.std.proofs.lemmas.Option.{get_or_from_slice_get}
use Rattle.pb_sorts.specs.declared.carrier.Carrier.{Carrier}
use Rattle.pb_sorts.proofs.Places.{drop-at}
use Rattle.pb_text_tree.specs.declared.spec.Equation as tree
use Rattle.pb_text_tree.specs.Form.{EquationForm, equation_form}
use Rattle.pb_bytecode.specs.Contents.{EquationContents}
use Rattle.pb_bytecode.specs.Views.{equation_contents}
use Rattle.pb_bytecode.specs.declared.equation.Equation as bytecode
use Rattle.pb_bytecode_program.specs.Counts.{one_step, tokens_of, static_steps, static_tokens}
use Rattle.pb_bytecode_program.specs.Machine.{Program}
use Rattle.pb_normal.specs.View.{formula_view}
use Rattle.pb_normal.specs.declared.normal.Equation.{Equation}
use Rattle.pb_assembler_scheme.specs.Scheme.{equation_code}
use Rattle.pb_assembler_scheme.proofs.Limits.{within_limits}
use Rattle.pb_assembler.specs.Compiled.{bare_program, compiled_contents, all_compiled, has_fitting_carriers, IsReadyToCompile, AreReady}
use Rattle.pb_assembler_measures.specs.Measures.{AreMeasures}
use Rattle.pb_assembler_measures.specs.MeasureEquations.{IsProgram}
use Rattle.pb_assembler_measures.specs.declared.measures.Measures.{Measures}
use Rattle.pb_assembler_builder.proofs.Drafts.{append_one}
use Rattle.pb_assembler_modules.proofs.StatedCounts.{cost_same}

-- ---- stated counts

module _ (callees : List (List Carrier)) (parameters : List Carrier) (text : EquationForm) (X : Equation) (ready : IsReadyToCompile callees parameters text X) (m : Measures)
    (measured : (p : Program) → IsProgram callees X p → AreMeasures m p (formula_view X.right)) where
  abbrev bare : Program
  bare = bare_program callees parameters X

  abbrev stating : Program
  stating = record bare { stated_steps = static_steps bare; stated_tokens = static_tokens bare }

  same_steps : static_steps bare ≡ static_steps stating
  same_steps = cost_same bare stating refl refl one_step (equation_code callees (formula_view X.right)) []

  same_tokens : static_tokens bare ≡ static_tokens stating
  same_tokens = cost_same bare stating refl refl tokens_of (equation_code callees (formula_view X.right)) []

  its_measures : AreMeasures m stating (formula_view X.right)
  its_measures = measured stating (record { compiled = record { code = refl; slots = ready.slots; steps = same_steps; tokens = same_tokens }; loops = refl; callees = refl })

  pub steps_exact : m.steps ≡ static_steps bare
  steps_exact = let a = its_measures.steps in let b = (within_limits bare (formula_view X.right) ready.kept).steps in let e = same_steps in omega (arith, a, b, e)

  pub tokens_exact : m.tokens ≡ static_tokens bare
  tokens_exact = let a = its_measures.tokens in let b = (within_limits bare (formula_view X.right) ready.kept).tokens in let e = same_tokens in omega (arith, a, b, e)

-- ---- equation by equation

pub record AreMade (callees : List (List Carrier)) (texts : List tree.Equation) (normals : List Equation) (k : ℕ) (done : List bytecode.Equation) : Type 0 where
  pub ready : AreReady callees (drop k callees) (map equation_form (drop k texts)) (drop k normals)
  pub fields : list_all has_fitting_carriers (map equation_contents done) ≡ true
  pub made :
      map equation_contents done ++ all_compiled callees (drop k callees) (map equation_form (drop k texts)) (drop k normals)
      ≡ all_compiled callees callees (map equation_form texts) normals

-- where equations are left, there are parameters and a text for the next
parameters_left : (all : List (List Carrier)) (cs : List (List Carrier)) (ts : List tree.Equation) (X : Equation)
    (E : List Equation) → AreReady all cs (map equation_form ts) (X ∷ E) → (0 < length cs) × (0 < length ts)
parameters_left all [] [] X E r = absurd r
parameters_left all [] (t ∷ ts) X E r = absurd r
parameters_left all (c ∷ cs) [] X E r = absurd r
parameters_left all (c ∷ cs) (t ∷ ts) X E r = (omega arith, omega arith)

dropped : {X : Type 0} (xs : List X) (k : ℕ) → 0 < length (drop k xs) → k < length xs
dropped [] zero l = l
dropped [] (suc k) l = absurd (omega arith)
dropped (x ∷ xs) zero l = omega arith
dropped (x ∷ xs) (suc k) l = let h = dropped xs k l in omega arith

module _ {callees : List (List Carrier)} {texts : List tree.Equation} {normals : List Equation} {k : ℕ} {X : Equation} {done : List bytecode.Equation}
    (below : k < length normals) (at : X ≡ get_or normals k X) (h : AreMade callees texts normals k done) where
  here : AreReady callees (drop k callees) (map equation_form (drop k texts)) (X ∷ drop (k + 1) normals)
  here = subst (λ (E : List Equation). AreReady callees (drop k callees) (map equation_form (drop k texts)) E) (drop-at normals k X below at) h.ready

  pub parameters_there : k < length callees
  parameters_there = dropped callees k (parameters_left callees (drop k callees) (drop k texts) X (drop (k + 1) normals) here).0

  pub text_there : k < length texts
  text_there = dropped texts k (parameters_left callees (drop k callees) (drop k texts) X (drop (k + 1) normals) here).1

  module _ {v : List Carrier} {t : tree.Equation} (v_at : slice_get callees k ≡ Some v) (t_at : t ≡ get_or texts k t) where
    split : drop k callees ≡ v ∷ drop (k + 1) callees
    split = drop-at callees k v parameters_there (sym (get_or_from_slice_get callees k v v v_at))

    whole : AreReady callees (v ∷ drop (k + 1) callees) (equation_form t ∷ map equation_form (drop (k + 1) texts)) (X ∷ drop (k + 1) normals)
    whole =
        subst (λ (vs : List (List Carrier)). AreReady callees vs (equation_form t ∷ map equation_form (drop (k + 1) texts)) (X ∷ drop (k + 1) normals)) split
        (subst (λ (ts : List tree.Equation). AreReady callees (drop k callees) (map equation_form ts) (X ∷ drop (k + 1) normals)) (drop-at texts k t text_there t_at) here)

    pub ready_next : IsReadyToCompile callees v (equation_form t) X
    ready_next = whole.0

    pub made_more : (e : bytecode.Equation) {more : List bytecode.Equation} → more ≡ done ++ e ∷ [] → equation_contents e ≡ compiled_contents callees v (equation_form t) X
        → has_fitting_carriers (equation_contents e) ≡ true → AreMade callees texts normals (k + 1) more
    made_more e pushed is fields =
        let rest = all_compiled callees (drop (k + 1) callees) (map equation_form (drop (k + 1) texts)) (drop (k + 1) normals) in record {
          ready = whole.1;
          fields =
              ap (λ (es : List bytecode.Equation). list_all has_fitting_carriers (map equation_contents es)) pushed
              ∙ ap (list_all has_fitting_carriers) (map_push equation_contents done e)
              ∙ append_one has_fitting_carriers (map equation_contents done) (equation_contents e) h.fields fields;
          made =
              ap (λ (es : List bytecode.Equation). map equation_contents es ++ rest) pushed
              ∙ ap (λ (es : List EquationContents). es ++ rest) (map_push equation_contents done e)
              ∙ append_assoc (map equation_contents done) (equation_contents e ∷ []) rest
              ∙ ap (λ (c : EquationContents). map equation_contents done ++ c ∷ rest) is
              ∙ ap (λ (vs : List (List Carrier)). map equation_contents done
              ++ all_compiled callees vs (equation_form t ∷ map equation_form (drop (k + 1) texts))
              (X ∷ drop (k + 1) normals)) (sym split)
              ∙ ap (λ (ts : List tree.Equation). map equation_contents done
              ++ all_compiled callees (drop k callees) (map equation_form ts) (X ∷ drop (k + 1) normals))
              (sym (drop-at texts k t text_there t_at))
              ∙ ap (λ (E : List Equation). map equation_contents done ++ all_compiled callees (drop k callees) (map equation_form (drop k texts)) E) (sym (drop-at normals k X below at))
              ∙ h.made;
        }

pub made_equations : {callees : List (List Carrier)} {texts : List tree.Equation} {normals : List Equation} {k : ℕ}
    {done : List bytecode.Equation} → length normals ≤ k → AreMade callees texts normals k done
    → map equation_contents done ≡ all_compiled callees callees (map equation_form texts) normals
made_equations {callees} {texts} {normals} {k} {done} end h =
    sym (append-nil (map equation_contents done))
    ∙ ap (λ (es : List EquationContents). map equation_contents done ++ es) (sym (none (drop k callees) (map equation_form (drop k texts))))
    ∙ ap (λ (E : List Equation). map equation_contents done ++ all_compiled callees (drop k callees) (map equation_form (drop k texts)) E) (sym (drop_all k normals end))
    ∙ h.made
  where
    none : (css : List (List Carrier)) (E : List EquationForm) → all_compiled callees css E [] ≡ []
    none [] E = refl
    none (cs ∷ css) [] = refl
    none (cs ∷ css) (t ∷ E) = refl
