-- What the shapes that are kept with arguments promise.
use Rattle.std.specs.Prelude.{◌≡◌, true, ⊤}
use Rattle.std.specs.List.{All}
use Rattle.pb_base_values.specs.Carrier.{Value, contains}
use Rattle.pb_text_meaning.specs.Syntax.{Equation, Spec}
use Rattle.pb_text_meaning.specs.Formula.{Instance}
use Rattle.pb_text_meaning.specs.Meaning.{equation_of}
use Rattle.pb_typing_declarations.specs.Shapes.{shape_carrier}
use Rattle.pb_typing_rules.specs.Shapes.{IsValueOf}
use Rattle.pb_normal.specs.Normal.{Argument, Formula, Test, Join, Each, Call, Slots, set, value}
use Rattle.pb_normal.specs.Equations.{normal_equation, Hold}

-- the value of each argument is one of its shape, whatever values quantified slots take
abbrev pub ArgumentsFit : Slots → Formula → Type 0
ArgumentsFit slots (Test x) = ⊤
ArgumentsFit slots (Join m f g) = ArgumentsFit slots f × ArgumentsFit slots g
ArgumentsFit slots (Each q s shape f) =
    (v : Value) → contains (shape_carrier shape) v ≡ true → ArgumentsFit (set slots s v) f
ArgumentsFit slots (Call X es) = All (λ (e : Argument). IsValueOf e.shape (value slots e.term)) es

-- at each instance of an equation
abbrev pub KeepsShapes : Spec → Equation → Type 0
KeepsShapes spec X =
    (slots : Slots) (i : Instance) → (equation_of spec X).owns i ≡ true → Hold slots i.values
    → ArgumentsFit slots (normal_equation spec X)
