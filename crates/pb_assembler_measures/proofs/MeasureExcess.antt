-- The first equation whose code exceeds a limit.
use Rattle.std.proofs.Common.{◌≡◌, ℕ, suc, ◌+◌, ◌<◌, ◌≤◌, List, [], ◌∷◌, ◌++◌, length, Option, Some, None, refl, sym, ap, ◌∙◌, subst, arith, ⊎_elim, length-append}
use Rattle.std.specs.List.{slice_get}
use Rattle.std.proofs.lemmas.Bool.{cases_lt}
use Rattle.std.proofs.lemmas.Option.{slice_get_within, same_Some}
use Rattle.pb_sorts.specs.declared.carrier.Carrier.{Carrier}
use Rattle.pb_sorts.proofs.Places.{IsPlaceAfter, append_cases}
use Rattle.pb_text_meaning.specs.Syntax as syntax
use Rattle.pb_text_meaning.specs.Syntax.{Spec}
use Rattle.pb_bytecode.specs.Contents.{EquationContents, Contents}
use Rattle.pb_bytecode.specs.Meaning.{program_of}
use Rattle.pb_bytecode_program.specs.Machine.{Program}
use Rattle.pb_normal.specs.Equations.{normal_equation}
use Rattle.pb_normal.specs.Normal.{Formula}
use Rattle.pb_normal.specs.View.{formula_view}
use Rattle.pb_normal.specs.declared.normal.Equation.{Equation}
use Rattle.pb_assembler_scheme.specs.Scheme.{parameters}
use Rattle.pb_assembler_scheme.specs.Limits.{KeepsLimits}
use Rattle.pb_assembler_scheme.specs.Made.{IsMadeOf}
use Rattle.pb_assembler_modules.specs.Module.{AreEquationsOf, IsCompiledModule, KeepLimits, KeepsAllLimits}
use Rattle.pb_assembler_modules.proofs.Modules.{made}
use Rattle.pb_bytecode.specs.declared.limit.Limit.{Limit}
use Rattle.pb_assembler_measures.specs.declared.measures.Measures.{Measures}
use Rattle.pb_assembler_measures.specs.Excess.{ExceedsFirst, IsFirstExcess}
use Rattle.pb_assembler_measures.specs.Measures.{first_excess}
use Rattle.pb_assembler_measures.specs.MeasureEquations.{AreMeasuresOfAll, AreMeasuresOf, EachKeepsLimits, IsProgram}
use Rattle.pb_assembler_measures.proofs.Measured.{none_exceeded, exceeded_first}
use Rattle.pb_assembler_measures.proofs.MeasureMade.{AreFormsOf, form_at, text_at, parameters_at, program, program_made, made_is_program}

-- ---- one equation

-- its programs keep the limits
abbrev pub Keeps : List (List Carrier) → Equation → Type 0
Keeps callees e = (p : Program) → IsProgram callees e p → KeepsLimits p (formula_view e.right)

-- its programs exceed this limit first
abbrev pub Exceeds : List (List Carrier) → Equation → Limit → Type 0
Exceeds callees e l = (p : Program) → IsProgram callees e p → ExceedsFirst p (formula_view e.right) l

pub keeps : (callees : List (List Carrier)) (e : Equation) (m : Measures) (o : Option Limit) → AreMeasuresOf m callees e → o ≡ first_excess m → o ≡ None → Keeps callees e
keeps callees e m o h f g p made = none_exceeded m p (formula_view e.right) (h p made) (sym f ∙ g)

pub exceeds : (callees : List (List Carrier)) (e : Equation) (m : Measures) (o : Option Limit) (l : Limit) → AreMeasuresOf m callees e → o ≡ first_excess m → o ≡ Some l → Exceeds callees e l
exceeds callees e m o l h f g p made = exceeded_first m p (formula_view e.right) (h p made) l (sym f ∙ g)

-- ---- the equations up to a place

abbrev pub KeepTo : List (List Carrier) → List Equation → ℕ → Type 0
KeepTo callees es n = (j : ℕ) (e : Equation) → j < n → slice_get es j ≡ Some e → Keeps callees e

keep_more : (callees : List (List Carrier)) (es : List Equation) (n m : ℕ) (d : Equation) → m ≡ n + 1 → slice_get es n ≡ Some d → KeepTo callees es n → Keeps callees d → KeepTo callees es m
keep_more callees es n m d f here h k j e l at =
    ⊎_elim (λ (less : j < n). h j e less at) (λ (more : n ≤ j).
    let same : j ≡ n = omega arith in
    let found : Some d ≡ Some e = sym here ∙ ap (slice_get es) (sym same) ∙ at in
    let equal : d ≡ e = cc in
    subst (λ (x : Equation). Keeps callees x) equal k) (cases_lt j n)

-- these are the measures of the first n equations, which keep the limits
pub record MeasuredTo (callees : List (List Carrier)) (es : List Equation) (n : ℕ) (ms : List Measures) : Type 0 where
  pub long : length ms ≡ n
  pub each : (k : ℕ) (e : Equation) (m : Measures) → slice_get es k ≡ Some e → slice_get ms k ≡ Some m → AreMeasuresOf m callees e
  pub keep : KeepTo callees es n

pub measured_more : (callees : List (List Carrier)) (es : List Equation) (n : ℕ) (d : Equation) (ms more : List Measures) (m : Measures) → slice_get es n ≡ Some d → more ≡ ms ++ m ∷ []
    → AreMeasuresOf m callees d → Keeps callees d → MeasuredTo callees es n ms → MeasuredTo callees es (n + 1) more
measured_more callees es n d ms more m here pushed own k h = record {
  long = let a = ap length pushed in let b = h.long in omega (arith, a, b, length-append ms (m ∷ []));
  each = λ j e w at there.
      ⊎_elim (λ (earlier : slice_get ms j ≡ Some w). h.each j e w at earlier)
      (λ (last : IsPlaceAfter ms (m ∷ []) j w). one j e w at last)
      (append_cases ms (m ∷ []) j w (ap (λ (ws : List Measures). slice_get ws j) (sym pushed) ∙ there));
  keep = keep_more callees es n (n + 1) d refl here h.keep k;
}
  where
    one : (j : ℕ) (e : Equation) (w : Measures) → slice_get es j ≡ Some e → IsPlaceAfter ms (m ∷ []) j w → AreMeasuresOf w callees e
    one j e w at last =
        let none = slice_get_within (m ∷ []) last.place w last.at in
        let first : last.place ≡ 0 = omega (arith, none) in
        let same : m ≡ w = same_Some m w (ap (slice_get (m ∷ [])) (sym first) ∙ last.at) in
        let place : j ≡ n = let a = last.after in let b = h.long in omega (arith, a, b, first) in
        let equal : d ≡ e = same_Some d e (sym here ∙ ap (slice_get es) (sym place) ∙ at) in
        subst (λ (x : Measures). AreMeasuresOf x callees e) same (subst (λ (x : Equation). AreMeasuresOf m callees x) equal own)

pub all_measured : (callees : List (List Carrier)) (es : List Equation) (n : ℕ) (ms : List Measures) → n ≡ length es → MeasuredTo callees es n ms → AreMeasuresOfAll callees es ms
all_measured callees es n ms e h = record { long = h.long ∙ e; each = h.each }

-- ---- texts

module _ (spec : Spec) (cs : List (List Carrier)) (es : List Equation) (forms : AreFormsOf spec spec.equations cs es) where
  keep_text : (n : ℕ) → KeepTo cs es n → (j : ℕ) (X : syntax.Equation) → j < n → slice_get spec.equations j ≡ Some X → (p : Program) → IsMadeOf spec X p → KeepsLimits p (normal_equation spec X)
  keep_text n h j X l at p made =
      let form = form_at spec spec.equations es forms.rights forms.loops j X at in
      subst (λ (f : Formula). KeepsLimits p f) form.2.right (h j form.0 l form.1 p (made_is_program spec cs X form.0 p forms.parameters form.2 made))

  pub all_keep : (n : ℕ) → length es ≤ n → KeepTo cs es n → EachKeepsLimits spec
  all_keep n long h k X at =
      let form = form_at spec spec.equations es forms.rights forms.loops k X at in
      let below : k < length es = slice_get_within es k form.0 form.1 in
      keep_text n h k X (omega arith) at

  pub first_found : (k : ℕ) (e : Equation) (l : Limit) → slice_get es k ≡ Some e → Exceeds cs e l → KeepTo cs es k → IsFirstExcess spec (record { limit = l; equation = k })
  first_found k e l at over h =
      let text = text_at spec spec.equations es forms.rights forms.loops k e at in
      let X = text.0 in
      let carriers = parameters (slice_get cs k) in
      let p = program spec cs carriers e.loops.now X in
      let made : IsMadeOf spec X p = program_made spec cs carriers e.loops.now X forms.parameters (parameters_at spec cs spec.equations forms.parameters k X text.1) text.2.loops in
      record {
        equation = X;
        there = text.1;
        program = p;
        made = made;
        exceeds = subst (λ (f : Formula). ExceedsFirst p f l) text.2.right (over p (made_is_program spec cs X e p forms.parameters text.2 made));
        earlier = λ j Y less here q is. keep_text k h j Y less here q is;
      }

-- a module that is made of a text keeps the limits that all its equations' code keeps
module _ (spec : Spec) (m : Contents) (compiled : IsCompiledModule spec m) where
  module_kept : (E : List syntax.Equation) (es : List EquationContents) → AreEquationsOf spec m E es
      → ((k : ℕ) (X : syntax.Equation) → slice_get E k ≡ Some X → (p : Program) → IsMadeOf spec X p → KeepsLimits p (normal_equation spec X)) → KeepLimits spec m E es
  module_kept [] [] h keep = tt
  module_kept [] (e ∷ es) h keep = tt
  module_kept (X ∷ E) [] h keep = tt
  module_kept (X ∷ E) (e ∷ es) h keep = (keep 0 X refl (program_of m e) (made spec m compiled X e h.0), module_kept E es h.1 (λ k Y at. keep (suc k) Y at))

  pub module_keeps : EachKeepsLimits spec → KeepsAllLimits spec m
  module_keeps keep = module_kept spec.equations m.equations compiled.equations keep
