-- A compiled module has the symmetries of its text (Ip and Dill 1996, of a compiled description).
use Rattle.std.specs.Prelude.{◌≡◌, ℕ, map}
use Rattle.pb_fixpoint_trees.specs.Tree.{Tree}
use Rattle.pb_fixpoint_trees.specs.Equations.{numbered}
use Rattle.pb_fixpoint_symmetry.specs.Symmetry.{AreClosed, IsSymmetry}
use Rattle.pb_model_meaning.specs.Syntax.{Formula, Model}
use Rattle.pb_model_meaning.specs.Steps.{State, is_state}
use Rattle.pb_model_symmetry.specs.Symmetry.{is_at_state, carried}
use Rattle.pb_model_translation.specs.Translation.{translation_by}
use Rattle.pb_text_meaning.specs.Syntax.{Name, Spec}
use Rattle.pb_text_meaning.specs.Formula.{Instance, is_instance}
use Rattle.pb_text_meaning.specs.Meaning.{equations_of}
use Rattle.pb_typing_rules.specs.WellTyped.{IsWellTyped}
use Rattle.pb_bytecode.specs.Contents.{Contents}
use Rattle.pb_bytecode.specs.Meaning.{signature_of, AreTrees}
use Rattle.pb_assembler_modules.specs.Module.{IsCompiledModule}
use Rattle.pb_module_symmetry.specs.Numbers.{is_number, along, KeepsEquations}

-- a symmetry of the text's equations is one of the equations of its instances' trees, by numbers
abbrev pub ModulesHaveTheSymmetriesOfTexts : Type 0
ModulesHaveTheSymmetriesOfTexts =
    (spec : Spec) → IsWellTyped spec → (m : Contents) → IsCompiledModule spec m →
    (trees : ℕ → Tree) → AreTrees m trees → (f : Instance → Instance) → KeepsEquations spec f →
    IsSymmetry (is_instance spec) (equations_of spec) f →
    IsSymmetry (is_number spec) (numbered 0 (map signature_of m.equations) trees) (along spec f)

-- and these read the numbers of instances alone
abbrev pub CompiledModulesAreClosed : Type 0
CompiledModulesAreClosed =
    (spec : Spec) → IsWellTyped spec → (m : Contents) → IsCompiledModule spec m →
    (trees : ℕ → Tree) → AreTrees m trees →
    AreClosed (is_number spec) (numbered 0 (map signature_of m.equations) trees)

-- so a symmetry of a model's states, of the equations to which a formula is translated, is one of
-- the module's trees
abbrev pub ModulesOfModelsAreSymmetric : Type 0
ModulesOfModelsAreSymmetric =
    (m : Model) (names : ℕ → Name) (g : Formula) → IsWellTyped (translation_by m names g) →
    (c : Contents) → IsCompiledModule (translation_by m names g) c →
    (trees : ℕ → Tree) → AreTrees c trees →
    (f : State → State) → ((s : State) → is_state m (f s) ≡ is_state m s) →
    IsSymmetry (is_at_state m) (equations_of (translation_by m names g)) (carried f) →
    IsSymmetry (is_number (translation_by m names g)) (numbered 0 (map signature_of c.equations)
    trees) (along (translation_by m names g) (carried f))
