-- What right sides over slots say: the truth of the initial instance in the solution of the
-- equations that have them.
use Rattle.std.specs.Prelude.{pos, Bool, List, [], ◌∷◌, map, unwrap_or}
use Rattle.std.specs.List.{slice_get}
use Rattle.pb_fixpoint.specs.Solution as fixpoint
use Rattle.pb_fixpoint.specs.Solution.{solution, empty}
use Rattle.pb_base_values.specs.Carrier.{Tuple}
use Rattle.pb_text_meaning.specs.Syntax.{Equation, Spec}
use Rattle.pb_text_meaning.specs.Value.{values}
use Rattle.pb_text_meaning.specs.Formula.{Instance, call_truth}
use Rattle.pb_text_meaning.specs.Meaning.{equation_of}
use Rattle.pb_normal.specs.Normal.{Formula, Slots, truth}
use Rattle.pb_normal.specs.Equations.{normal_equation}

-- slots of which the first hold these values, in order
abbrev pub slots_of : Tuple → Slots
slots_of vs = λ s. unwrap_or (slice_get vs s) (pos 0)

-- an equation with this right side in place of its own, as the solution reads it
abbrev pub equation_by : Spec → Equation → Formula → fixpoint.Equation Instance
equation_by spec X f =
    record (equation_of spec X) { holds = λ i t. truth spec (slots_of i.values) t f }

-- equations with these right sides, in order
abbrev pub equations_by : Spec → List Equation → List Formula → List (fixpoint.Equation Instance)
equations_by spec [] fs = []
equations_by spec (X ∷ E) [] = []
equations_by spec (X ∷ E) (f ∷ fs) = equation_by spec X f ∷ equations_by spec E fs

-- the answer, where the equations of a specification have these right sides
abbrev pub answer_by : Spec → List Formula → Bool
answer_by spec fs =
    call_truth spec (solution (equations_by spec spec.equations fs) empty)
    (record { name = spec.initial; values = values spec [] spec.arguments })

-- the right sides of a specification in positive normal form
abbrev pub normal_equations : Spec → List Formula
normal_equations spec = map (normal_equation spec) spec.equations
