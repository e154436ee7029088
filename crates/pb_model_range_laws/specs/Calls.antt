-- Which instances a right side calls, and which are reached from the initial one, in a text without
-- its places.
use Rattle.std.specs.Prelude.{◌≡◌, ◌⊎◌, Bool, true, false, ◌&&◌, [], Contains}
use Rattle.pb_base_values.specs.Carrier.{Tuple, tuples}
use Rattle.pb_fixpoint.specs.Solution.{empty}
use Rattle.pb_text_tree.specs.declared.operator.Connective.{Connective}
use Rattle.pb_text_tree.specs.declared.operator.Connective.TheVariants.{And, Or, Implies}
use Rattle.pb_text_meaning.specs.Syntax.{same_name, Formula, Equation, Spec}
use Rattle.pb_text_meaning.specs.Value.{Assignment, values}
use Rattle.pb_text_meaning.specs.Formula.{Instance, carriers_of, is_instance, truth}
use Rattle.pb_text_meaning.specs.Meaning.{assigned}
use Rattle.pb_typing_tree.specs.Expansion.{expanded}
use Rattle.pb_typing_calls.specs.Calls.{decides, is_test}
use Rattle.pb_typing_calls.specs.declared.side.Side.{Side}
use Rattle.pb_typing_calls.specs.declared.side.Side.TheVariants.{Left, Right}

-- an operand is a test, and decides what it is connected to
abbrev pub test_decides : Spec → Assignment → Connective → Side → Formula → Bool
test_decides spec a c side f = is_test (expanded f) && decides c side (truth spec a empty f)

-- what one of two operands calls: beside a test that decides nothing is called
abbrev pub OneCalls : Spec → Assignment → Connective → (f g : Formula) → (F G : Type 0) → Type 0
OneCalls spec a c f g F G =
    ((test_decides spec a c Right g ≡ false) × F) ⊎ ((test_decides spec a c Left f ≡ false) × G)

-- Under an assignment a formula calls the instance j. A test is evaluated before what it is
-- connected to, on whichever side it stands; a quantifier's body is taken for each value of its
-- variables.
abbrev pub Calls : Spec → Assignment → Formula → Instance → Type 0
Calls spec a (Formula.Truth b) j = ⊥
Calls spec a (Formula.Val x) j = ⊥
Calls spec a (Formula.Not f) j = Calls spec a f j
Calls spec a (Formula.And f g) j = OneCalls spec a And f g (Calls spec a f j) (Calls spec a g j)
Calls spec a (Formula.Or f g) j = OneCalls spec a Or f g (Calls spec a f j) (Calls spec a g j)
Calls spec a (Formula.Implies f g) j =
    OneCalls spec a Implies f g (Calls spec a f j) (Calls spec a g j)
Calls spec a (Formula.Quantified q xs f) j =
    (vs : Tuple) × Contains (tuples (carriers_of spec xs)) vs × Calls spec (assigned xs vs a) f j
Calls spec a (Formula.Call X es) j = record { name = X; values = values spec a es } ≡ j

-- the right side of the instance i calls j
abbrev pub InstanceCalls : Spec → Instance → Instance → Type 0
InstanceCalls spec i j =
    (X : Equation) × Contains spec.equations X × (same_name X.name i.name ≡ true)
    × Calls spec (assigned X.parameters i.values []) X.right j

abbrev pub initial_instance : Spec → Instance
initial_instance spec = record { name = spec.initial; values = values spec [] spec.arguments }

-- the instances that are reached: the initial one, and each that one of them calls
pub data IsReachedByCalls (spec : Spec) : Instance → Type 0 where
  Initial : IsReachedByCalls spec (initial_instance spec)
  Called : (i j : Instance) → IsReachedByCalls spec i → InstanceCalls spec i j
      → IsReachedByCalls spec j

-- No instance that is reached calls one outside the ranges, and the initial one isn't outside: each
-- value is in its parameter's carrier.
abbrev pub StaysInRanges : Spec → Type 0
StaysInRanges spec = (i : Instance) → IsReachedByCalls spec i → is_instance spec i ≡ true
