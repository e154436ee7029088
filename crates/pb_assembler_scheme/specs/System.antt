-- What the scheme's programs of all equations of a specification say together.
use Rattle.std.specs.Prelude.{◌≡◌, ℕ, ⊤, List, [], ◌∷◌, map, Some}
use Rattle.std.specs.List.{slice_get}
use Rattle.pb_base_values.specs.Carrier.{Tuple, tuple_count}
use Rattle.pb_sorts.specs.Instance.{number_of}
use Rattle.pb_fixpoint_trees.specs.Tree.{Tree}
use Rattle.pb_fixpoint_trees.specs.Equations.{Signature, solved}
use Rattle.pb_text_meaning.specs.Syntax.{Equation, Spec}
use Rattle.pb_text_meaning.specs.Value.{values}
use Rattle.pb_text_meaning.specs.Formula.{Instance, carriers_of}
use Rattle.pb_text_meaning.specs.Meaning.{answer}
use Rattle.pb_typing_values.specs.Environment.{all_carriers}
use Rattle.pb_bytecode_program.specs.Machine.{Program}
use Rattle.pb_bytecode_program.specs.Safety.{AreArguments, EndsWith}
use Rattle.pb_assembler_scheme.specs.Correct.{number_in}
use Rattle.pb_assembler_scheme.specs.Equations.{IsProgramOf}

-- the scheme's programs of these equations, in order
abbrev pub ArePrograms : Spec → List Equation → List Program → Type 0
ArePrograms spec [] [] = ⊤
ArePrograms spec (X ∷ E) (p ∷ ps) = IsProgramOf spec X p × ArePrograms spec E ps
ArePrograms spec [] (p ∷ ps) = ⊥
ArePrograms spec (X ∷ E) [] = ⊥

-- each instance, by its number, has a tree with which the run of its equation's program ends
abbrev pub AreTrees : Spec → List Program → (ℕ → Tree) → Type 0
AreTrees spec programs trees =
    (k : ℕ) (p : Program) (tuple : Tuple) → slice_get programs k ≡ Some p
    → AreArguments p.parameters tuple
    → EndsWith p tuple
    (trees (number_of (all_carriers spec) (record { equation = k; values = tuple })))

-- an equation's sign, and how many instances it has
abbrev pub signature_of : Spec → Equation → Signature
signature_of spec X = record { sign = X.sign; size = tuple_count (carriers_of spec X.parameters) }

abbrev pub initial_instance : Spec → Instance
initial_instance spec = record { name = spec.initial; values = values spec [] spec.arguments }

-- the trees' equations have the answer of the specification: the truth of the initial instance's
-- number in their solution
abbrev pub HaveAnswer : Spec → (ℕ → Tree) → Type 0
HaveAnswer spec trees =
    solved (map (signature_of spec) spec.equations) trees (number_in spec (initial_instance spec))
    ≡ answer spec
