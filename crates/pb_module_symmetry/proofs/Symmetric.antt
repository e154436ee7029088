-- A symmetry of a text's equations is one of its module's trees.
use Rattle.std.proofs.Common.{◌≡◌, ℕ, zero, suc, ◌+◌, true, List, [], ◌∷◌, map, Option, Some, refl, sym, ap, ◌∙◌, subst, arith}
use Rattle.std.specs.List.{All, slice_get}
use Rattle.pb_fixpoint.specs.Solution.{Environment}
use Rattle.pb_fixpoint.specs.Transfer.{Matches, IsSame, AreSame}
use Rattle.pb_fixpoint_trees.specs.Tree.{Tree}
use Rattle.pb_fixpoint_trees.specs.Equations.{Signature, numbered}
use Rattle.pb_fixpoint_symmetry.specs.Symmetry.{AreClosed, IsSymmetry}
use Rattle.pb_fixpoint_symmetry.proofs.Renamed.{closed, renamed}
use Rattle.pb_text_meaning.specs.Syntax.{Name, Equation, Spec}
use Rattle.pb_text_meaning.specs.Formula.{Instance, equation_named, is_instance}
use Rattle.pb_text_meaning.specs.Meaning.{equation_of, equations_of}
use Rattle.pb_typing_rules.specs.WellTyped.{IsWellTyped}
use Rattle.pb_bytecode_program.specs.Machine.{Program}
use Rattle.pb_bytecode.specs.Contents.{Contents}
use Rattle.pb_bytecode.specs.Meaning.{parameters, program_of, signature_of, AreTrees}
use Rattle.pb_assembler_scheme.specs.Correct.{number_in}
use Rattle.pb_assembler_scheme.specs.Equations.{IsProgramOf, DecidesEquation}
use Rattle.pb_assembler_scheme.specs.Made.{IsMadeOf}
use Rattle.pb_assembler_scheme.proofs.Known.{place_in, known-instance}
use Rattle.pb_assembler_scheme.proofs.System.{holds_of, by_name, are-same}
use Rattle.pb_assembler_modules.specs.Module.{IsCompiledModule}
use Rattle.pb_assembler_modules.proofs.Modules as compiled
use Rattle.pb_module_symmetry.specs.Numbers.{is_number, instance_at, along, KeepsEquations}
use Rattle.pb_module_symmetry.proofs.Renamed.{are-renamed}

-- ---- equations that hold by the name of the instance

-- a system that is the same at the image has that of each of its equations
same-at : (spec : Spec) (f : Instance → Instance) (E : List Equation)
    → AreSame (is_instance spec) f (map (equation_of spec) E) (map (equation_of spec) E)
    → (k : ℕ) (X : Equation) → slice_get E k ≡ Some X → IsSame (is_instance spec) f (equation_of spec X) (equation_of spec X)
same-at spec f [] s k X at = cc
same-at spec f (Y ∷ E) s zero X at = let same : Y ≡ X = cc in subst (λ (Z : Equation). IsSame (is_instance spec) f (equation_of spec Z) (equation_of spec Z)) same s.0
same-at spec f (Y ∷ E) s (suc k) X at = same-at spec f E s.1 k X at

module _ (spec : Spec) (f : Instance → Instance) (keeps : KeepsEquations spec f) (s : IsSymmetry (is_instance spec) (equations_of spec) f) where
  -- at an instance and its image, the equation of the name holds alike
  holds-alike : (t u : Environment Instance) → Matches (is_instance spec) f t u → (i : Instance) → is_instance spec i ≡ true
      → holds_of spec (equation_named spec.equations i.name) i u ≡ holds_of spec (equation_named spec.equations (f i).name) (f i) t
  holds-alike t u tu i k =
      let known = known-instance spec i k in
      ap (λ (o : Option Equation). holds_of spec o i u) known.found
      ∙ ((same-at spec f spec.equations s (place_in spec i) known.equation known.at).holds t u tu i k
      ∙ (ap (λ (o : Option Equation). holds_of spec o (f i) t) (sym known.found)
      ∙ ap (λ (x : Name). holds_of spec (equation_named spec.equations x) (f i) t) (sym (keeps.names i))))

  by-name : (E : List Equation) → AreSame (is_instance spec) f (map (equation_of spec) E) (map (equation_of spec) E)
      → AreSame (is_instance spec) f (map (by_name spec) E) (map (by_name spec) E)
  by-name [] q = tt
  by-name (X ∷ E) q = (
    record {
      sign = refl;
      size = refl;
      owns = q.0.owns;
      holds = holds-alike;
    },
    by-name E q.1,
  )

-- ---- the trees

module _ (spec : Spec) (typed : IsWellTyped spec) (m : Contents) (h : IsCompiledModule spec m)
    (schemes : (X : Equation) (p : Program) → IsMadeOf spec X p → IsProgramOf spec X p)
    (decides : All (λ (X : Equation). (p : Program) → IsProgramOf spec X p → DecidesEquation spec X p) spec.equations)
    (trees : ℕ → Tree) (ends : AreTrees m trees) where
  -- the trees' equations are those of the text, by numbers
  same : AreSame (is_instance spec) (number_in spec) (numbered 0 (map signature_of m.equations) trees) (map (by_name spec) spec.equations)
  same =
      subst (λ (ss : List Signature). AreSame (is_instance spec) (number_in spec) (numbered 0 ss trees) (map (by_name spec) spec.equations))
      (sym (compiled.signatures spec m h typed schemes decides trees ends))
      (are-same spec typed decides (map (program_of m) m.equations) (compiled.are_programs spec m h typed schemes decides trees ends spec.equations m.equations h.equations) trees
      (compiled.are_trees spec m h typed schemes decides trees ends)
      spec.equations 0 0 refl (λ b. let none : 0 + b ≡ b = omega arith in ap (slice_get spec.equations) none))

  pub symmetric : (f : Instance → Instance) → KeepsEquations spec f → IsSymmetry (is_instance spec) (equations_of spec) f
      → IsSymmetry (is_number spec) (numbered 0 (map signature_of m.equations) trees) (along spec f)
  symmetric f keeps s =
      renamed ℕ Instance (is_instance spec) (number_in spec) (is_number spec) (instance_at spec)
      (are-renamed spec typed.declarations.predicate_variables (parameters m) (compiled.all_values spec m h typed schemes decides trees ends))
      f keeps.known
      (numbered 0 (map signature_of m.equations) trees) (map (by_name spec) spec.equations) same (by-name spec f keeps s spec.equations s)

  pub reads-numbers : AreClosed (is_number spec) (numbered 0 (map signature_of m.equations) trees)
  reads-numbers =
      closed ℕ Instance (is_instance spec) (number_in spec) (is_number spec) (instance_at spec)
      (are-renamed spec typed.declarations.predicate_variables (parameters m) (compiled.all_values spec m h typed schemes decides trees ends))
      (numbered 0 (map signature_of m.equations) trees) (map (by_name spec) spec.equations) same
