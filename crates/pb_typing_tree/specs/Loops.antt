-- The slots that the quantifiers of a formula take.
use Rattle.std.specs.Prelude.{◌≡◌, true, ⊤, List, [], ◌∷◌, ◌++◌, map}
use Rattle.pb_text_meaning.specs.Syntax.{Variable, Formula, Equation, Spec}
use Rattle.pb_typing_declarations.specs.Shapes.{Shape, end_of}
use Rattle.pb_typing_declarations.specs.WellDeclared.{has_shape}
pub use Rattle.pb_typing_declarations.specs.Shapes.{variable_shapes}
use Rattle.pb_typing_tree.specs.Expansion.{expanded}

-- the shapes of the slots that a formula's quantifiers take, in order
abbrev pub loops : Spec → Formula → List Shape
loops spec (Formula.Truth b) = []
loops spec (Formula.Val x) = []
loops spec (Formula.Not f) = loops spec f
loops spec (Formula.And f g) = loops spec f ++ loops spec g
loops spec (Formula.Or f g) = loops spec f ++ loops spec g
loops spec (Formula.Implies f g) = loops spec f ++ loops spec g
loops spec (Formula.Quantified q xs f) = variable_shapes spec xs ++ loops spec f
loops spec (Formula.Call X es) = []

-- those of an equation's right side
abbrev pub equation_loops : Spec → Equation → List Shape
equation_loops spec X = loops spec (expanded X.right)

-- those of each equation
abbrev pub all_loops : Spec → List (List Shape)
all_loops spec = map (equation_loops spec) spec.equations

-- each variable is of a sort that has values
abbrev pub AreShaped : Spec → List Variable → Type 0
AreShaped spec [] = ⊤
AreShaped spec (x ∷ xs) = (has_shape (end_of spec x.sort) ≡ true) × AreShaped spec xs

-- each variable of its quantifiers is of a sort that has values
abbrev pub IsShaped : Spec → Formula → Type 0
IsShaped spec (Formula.Truth b) = ⊤
IsShaped spec (Formula.Val x) = ⊤
IsShaped spec (Formula.Not f) = IsShaped spec f
IsShaped spec (Formula.And f g) = IsShaped spec f × IsShaped spec g
IsShaped spec (Formula.Or f g) = IsShaped spec f × IsShaped spec g
IsShaped spec (Formula.Implies f g) = IsShaped spec f × IsShaped spec g
IsShaped spec (Formula.Quantified q xs f) = AreShaped spec xs × IsShaped spec f
IsShaped spec (Formula.Call X es) = ⊤

-- each variable of an equation, its parameters and those of its quantifiers, is of a sort that has
-- values
abbrev pub IsShapedEquation : Spec → Equation → Type 0
IsShapedEquation spec X = AreShaped spec X.parameters × IsShaped spec (expanded X.right)
