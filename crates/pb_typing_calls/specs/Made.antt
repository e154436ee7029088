-- Whether a typed formula makes the call at a place, and this call names an instance. The formula
-- is given with the places of its calls, in their order.
use Rattle.std.specs.Prelude.{◌==◌, ℕ, Bool, true, false, not, ◌&&◌, ◌||◌}
use Rattle.std.specs.Prelude.{List, [], ◌∷◌, map, take, drop, Option}
use Rattle.std.specs.Cmp.Lexicographic.{pointwise}
use Rattle.std.specs.List.{find}
use Rattle.std.specs.Ordering.{int_eq}
use Rattle.pb_fixpoint.specs.Solution.{empty}
use Rattle.pb_text_tree.specs.declared.place.Place.{Place}
use Rattle.pb_text_tree.specs.declared.operator.Connective.{Connective}
use Rattle.pb_text_tree.specs.declared.operator.Quantifier.TheVariants.{Exists}
use Rattle.pb_base_values.specs.Carrier.{Tuple}
use Rattle.pb_sorts.specs.Instance.{Instance}
use Rattle.pb_text_meaning.specs.Syntax.{Spec}
use Rattle.pb_text_meaning.specs.Value.{of_values}
use Rattle.pb_typing_declarations.specs.Shapes.{shape_carrier}
use Rattle.pb_typing_tree.specs.Calls.{calls}
use Rattle.pb_typing_tree.specs.Meaning.{Slots, set, value, truth}
use Rattle.pb_typing_tree.specs.Tree.{Argument, Formula, Test, Negation, Connected, Quantified, Call}
use Rattle.pb_typing_calls.specs.Calls.{decides, same_place}
use Rattle.pb_typing_calls.specs.declared.side.Side.{Side}
use Rattle.pb_typing_calls.specs.declared.side.Side.TheVariants.{Left, Right}

-- a data term alone, maybe negated
abbrev pub is_test : Formula → Bool
is_test (Test x) = true
is_test (Negation f) = is_test f
is_test (Connected c f g) = false
is_test (Quantified q s shape f) = false
is_test (Call X es) = false

-- an operand is a test, and decides what it is connected to
abbrev pub is_deciding : Spec → Slots → Connective → Side → Formula → Bool
is_deciding spec a c side f = is_test f && decides c side (truth spec a empty f)

-- the operands behind another are one test that decides
abbrev pub rest_decides : Spec → Slots → Connective → List Formula → Bool
rest_decides spec a c [] = false
rest_decides spec a c (f ∷ []) = is_deciding spec a c Right f
rest_decides spec a c (f ∷ g ∷ fs) = false

-- whether the first of some places is this one
abbrev pub is_first : Place → List Place → Bool
is_first place [] = false
is_first place (p ∷ ps) = same_place p place

abbrev pub argument_values : Slots → List Argument → Tuple
argument_values a es = map (λ (e : Argument). value a e.term) es

-- a call names an instance: it is of its equation, and its arguments have its values
abbrev pub names_instance : Slots → ℕ → List Argument → Instance → Bool
names_instance a X es i =
    (X == i.equation) && pointwise int_eq (argument_values a es) i.values

-- Under values of its slots a formula makes the call at a place, and the call names an instance.
-- Beside a test that decides no call is made; a quantifier's body is taken for each value of its
-- slot. The calls of a first operand stand before those of the second.
abbrev pub made : Spec → Instance → Place → Slots → Formula → List Place → Bool
made spec i place a (Test x) ps = false
made spec i place a (Negation f) ps = made spec i place a f ps
made spec i place a (Connected c f g) ps =
    (not (is_deciding spec a c Right g) && made spec i place a f (take (calls f) ps))
    || (not (is_deciding spec a c Left f) && made spec i place a g (drop (calls f) ps))
made spec i place a (Quantified q s shape f) ps =
    of_values Exists (λ v. made spec i place (set a s v) f ps) (shape_carrier shape)
made spec i place a (Call X es) ps = is_first place ps && names_instance a X es i

-- the place of the first call that a formula makes and that names an instance
abbrev pub first_made : Spec → Instance → Slots → Formula → List Place → Option Place
first_made spec i a f ps = find (λ place. made spec i place a f ps) ps
