-- What the typed tree of an equation says of the equation.
use Rattle.std.specs.Prelude.{◌≡◌, ℕ, ◌<◌, length, Some}
use Rattle.std.specs.List.{slice_get}
use Rattle.pb_fixpoint.specs.Solution.{Environment}
use Rattle.pb_base_values.specs.Carrier.{Tuple}
use Rattle.pb_text_meaning.specs.Syntax.{Equation, Spec}
use Rattle.pb_text_meaning.specs.Formula.{Instance}
use Rattle.pb_text_meaning.specs.Meaning.{equation_of}
use Rattle.pb_typing_tree.specs.Meaning.{Slots, truth}
use Rattle.pb_typing_tree.specs.Elaboration.{elaborated_equation}

-- the first slots hold these values, in order
abbrev pub Hold : Slots → Tuple → Type 0
Hold slots vs = (s : ℕ) → s < length vs → slice_get vs s ≡ Some (slots s)

-- where the first slots hold the values of an instance, the typed tree is true exactly where the
-- equation holds there
abbrev pub KeepsTruth : Spec → Equation → Type 0
KeepsTruth spec X =
    (t : Environment Instance) (slots : Slots) (i : Instance)
    → length i.values ≡ length X.parameters → Hold slots i.values
    → truth spec slots t (elaborated_equation spec X) ≡ (equation_of spec X).holds i t
