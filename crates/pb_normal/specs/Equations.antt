-- The normal form of an equation, and what it says of the equation.
use Rattle.std.specs.Prelude.{◌≡◌, ⊤, true, List, [], ◌∷◌, length}
use Rattle.pb_fixpoint.specs.Solution.{Environment}
use Rattle.pb_text_meaning.specs.Syntax.{Equation, Spec}
use Rattle.pb_text_meaning.specs.Formula.{Instance}
use Rattle.pb_text_meaning.specs.Meaning.{equation_of}
use Rattle.pb_typing_rules.specs.WellTyped.{parameter_scope}
pub use Rattle.pb_typing_tree.specs.Equations.{Hold}
use Rattle.pb_normal.specs.Expansion.{expanded}
use Rattle.pb_normal.specs.Normal.{Formula, Slots, truth}
use Rattle.pb_normal.specs.Normalisation.{normal, unslotted, with_slots}

-- the right side of an equation in positive normal form; the equation's parameters have the first
-- slots
abbrev pub normal_equation : Spec → Equation → Formula
normal_equation spec X =
    normal spec true (with_slots X.parameters 0 unslotted) (parameter_scope spec X)
    (length X.parameters) (expanded X.right)

-- where the first slots hold the values of an instance, the right side is true exactly where the
-- equation holds there, under every environment
abbrev pub HasTruth : Spec → Equation → Formula → Type 0
HasTruth spec X f =
    (t : Environment Instance) (slots : Slots) (i : Instance)
    → length i.values ≡ length X.parameters → Hold slots i.values
    → truth spec slots t f ≡ (equation_of spec X).holds i t

-- so it is with an equation's normal form
abbrev pub NormalFormKeepsTruth : Spec → Equation → Type 0
NormalFormKeepsTruth spec X = HasTruth spec X (normal_equation spec X)

-- one right side for each equation, in order
abbrev pub HaveTruth : Spec → List Equation → List Formula → Type 0
HaveTruth spec [] [] = ⊤
HaveTruth spec (X ∷ E) (f ∷ fs) = HasTruth spec X f × HaveTruth spec E fs
HaveTruth spec [] (f ∷ fs) = ⊥
HaveTruth spec (X ∷ E) [] = ⊥
