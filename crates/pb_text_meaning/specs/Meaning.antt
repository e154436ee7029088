-- What a specification says: the truth of its initial instance in the solution of its equations.
use Rattle.std.specs.Prelude.{Bool, ◌&&◌, List, [], ◌∷◌, map}
use Rattle.pb_fixpoint.specs.Solution as fixpoint
use Rattle.pb_fixpoint.specs.Solution.{Environment, solution, empty}
use Rattle.pb_text_meaning.specs.Syntax.{same_name, Variable, Formula, Equation, Spec}
use Rattle.pb_base_values.specs.Carrier.{Tuple, is_within, tuple_count}
use Rattle.pb_text_meaning.specs.Value.{Assignment}
use Rattle.pb_text_meaning.specs.Formula.{Instance, carriers_of, truth}

-- variables get the values of a tuple, in order
abbrev pub assigned : List Variable → Tuple → Assignment → Assignment
assigned [] vs a = a
assigned (x ∷ xs) [] a = a
assigned (x ∷ xs) (v ∷ vs) a = assigned xs vs ((x.name, v) ∷ a)

-- an equation of a specification, as the solution reads it
abbrev pub equation_of : Spec → Equation → fixpoint.Equation Instance
equation_of spec X = record {
  sign = X.sign;
  owns = λ i. same_name X.name i.name && is_within (carriers_of spec X.parameters) i.values;
  size = tuple_count (carriers_of spec X.parameters);
  holds = λ i t. truth spec (assigned X.parameters i.values []) t X.right;
}

abbrev pub equations_of : Spec → List (fixpoint.Equation Instance)
equations_of spec = map (equation_of spec) spec.equations

-- the answer: the truth of the initial instance under the solution of all equations, from the empty
-- environment
abbrev pub answer : Spec → Bool
answer spec =
    truth spec [] (solution (equations_of spec) empty) (Formula.Call spec.initial spec.arguments)
