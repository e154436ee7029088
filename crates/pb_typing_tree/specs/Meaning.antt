-- The value of a typed data term, and the truth of a typed formula, where all slots have values.
use Rattle.std.specs.Prelude.{ℕ, ◌==◌, pos, ◌+ℤ◌, ◌-ℤ◌, neg_ℤ, unsigned_abs, Bool, not, ◌&&◌, ◌||◌, if◌then◌else◌, List, [], map, Option, Some, None}
use Rattle.std.specs.Ordering.{int_eq}
use Rattle.std.specs.Int.{int_max, int_min}
use Rattle.std.specs.List.{slice_get}
use Rattle.pb_fixpoint.specs.Solution.{Environment}
use Rattle.pb_text_tree.specs.declared.operator.Connective.{Connective}
use Rattle.pb_text_tree.specs.declared.operator.Connective.TheVariants.{And, Or, Implies}
use Rattle.pb_base_values.specs.Carrier.{Value, of_bool}
use Rattle.pb_text_meaning.specs.Syntax.{Name, Equation, Spec}
use Rattle.pb_text_meaning.specs.Value.{is_true, binary, of_values}
use Rattle.pb_text_meaning.specs.Formula.{Instance, call_truth}
use Rattle.pb_typing_declarations.specs.Shapes.{shape_carrier}
use Rattle.pb_typing_tree.specs.Tree.{Term, Number, Slot, Negative, Absolute, Successor, Predecessor, Binary, Maximum, Minimum, Choice, Recognised, Argument, Formula, Test, Negation, Connected, Quantified, Call}

-- the values of all slots
abbrev pub Slots : Type 0
Slots = ℕ → Value

abbrev pub set : Slots → ℕ → Value → Slots
set a s v = λ i. if i == s then v else a i

abbrev pub value : Slots → Term → Value
value a (Term.Truth b) = of_bool b
value a (Number n) = pos n
value a (Term.Enumerator s i) = pos i
value a (Slot s) = a s
value a (Term.Not x) = of_bool (not (is_true (value a x)))
value a (Negative x) = neg_ℤ (value a x)
value a (Absolute x) = pos (unsigned_abs (value a x))
value a (Successor x) = value a x +ℤ pos 1
value a (Predecessor x) = value a x -ℤ pos 1
value a (Binary o x y) = binary o (value a x) (value a y)
value a (Maximum x y) = int_max (value a x) (value a y)
value a (Minimum x y) = int_min (value a x) (value a y)
value a (Choice c x y) = if is_true (value a c) then value a x else value a y
value a (Recognised s i x) = of_bool (int_eq (value a x) (pos i))

abbrev pub connected_truth : Connective → Bool → Bool → Bool
connected_truth And x y = x && y
connected_truth Or x y = x || y
connected_truth Implies x y = not x || y

abbrev pub name_of : Option Equation → Name
name_of None = []
name_of (Some X) = X.name

-- the instance that a call names
abbrev pub called_instance : Spec → Slots → ℕ → List Argument → Instance
called_instance spec a X es =
    record { name = name_of (slice_get spec.equations X); values = map (λ e. value a e.term) es }

abbrev pub truth : Spec → Slots → Environment Instance → Formula → Bool
truth spec a t (Test x) = is_true (value a x)
truth spec a t (Negation f) = not (truth spec a t f)
truth spec a t (Connected c f g) = connected_truth c (truth spec a t f) (truth spec a t g)
truth spec a t (Quantified q s shape f) =
    of_values q (λ v. truth spec (set a s v) t f) (shape_carrier shape)
truth spec a t (Call X es) = call_truth spec t (called_instance spec a X es)
