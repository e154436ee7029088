-- Calls of a normal form against the equations that they name.
use Rattle.std.specs.Prelude.{◌≡◌, true, ⊤, List, [], ◌∷◌, Option, Some, None}
use Rattle.std.specs.List.{All, slice_get}
use Rattle.pb_text_meaning.specs.Syntax.{Equation, Spec}
use Rattle.pb_typing_declarations.specs.Shapes.{Shape}
use Rattle.pb_typing_rules.specs.Shapes.{may_be_alike}
use Rattle.pb_normal.specs.Equations.{normal_equation}
use Rattle.pb_normal.specs.Loops.{variable_shapes}
use Rattle.pb_normal.specs.Normal.{Argument, Formula, Test, Join, Each, Call}

-- an argument for each of these shapes, and of its kind
abbrev pub AreAlike : List Argument → List Shape → Type 0
AreAlike [] [] = ⊤
AreAlike (e ∷ es) (s ∷ ss) = (may_be_alike e.shape s ≡ true) × AreAlike es ss
AreAlike [] (s ∷ ss) = ⊥
AreAlike (e ∷ es) [] = ⊥

-- the arguments of a call of this equation
abbrev pub AreArgumentsOf : Spec → Option Equation → List Argument → Type 0
AreArgumentsOf spec None es = ⊥
AreArgumentsOf spec (Some X) es = AreAlike es (variable_shapes spec X.parameters)

-- each call is of an equation that is there, with an argument for each of its parameters, of the
-- parameter's kind
abbrev pub HasCalls : Spec → Formula → Type 0
HasCalls spec (Test x) = ⊤
HasCalls spec (Join m f g) = HasCalls spec f × HasCalls spec g
HasCalls spec (Each q s shape f) = HasCalls spec f
HasCalls spec (Call equation es) = AreArgumentsOf spec (slice_get spec.equations equation) es

-- in the normal form of each equation
abbrev pub HaveCalls : Spec → Type 0
HaveCalls spec = All (λ (X : Equation). HasCalls spec (normal_equation spec X)) spec.equations
