-- What it takes that a typed formula of the code makes the call that is looked for.
use Rattle.std.specs.Prelude.{Bool, not, ◌&&◌, ◌||◌, ⊤, List, [], ◌∷◌, length}
use Rattle.pb_base_values.specs.Carrier.{Tuple}
use Rattle.pb_sorts.specs.Instance.{instance_of}
use Rattle.pb_text_meaning.specs.Syntax.{Spec}
use Rattle.pb_text_tree.specs.declared.operator.Connective.{Connective}
use Rattle.pb_typing_tree.specs.Calls.{call_places}
use Rattle.pb_typing_tree.specs.Fits.{FormulaFits}
use Rattle.pb_typing_tree.specs.Meaning.{Slots}
use Rattle.pb_typing_tree.specs.Tree as tree
use Rattle.pb_typing_tree.specs.View.{formula_view, formula_views}
use Rattle.pb_typing_tree.specs.declared.formula.Formula.{Formula}
use Rattle.pb_typing_values.specs.Environment.{IsLaidOut}
use Rattle.pb_typing_values.specs.Slots.{slots_of}
use Rattle.pb_typing_calls.specs.declared.sought.Sought.{Sought}
use Rattle.pb_typing_calls.specs.Made.{is_deciding, made, rest_decides}
use Rattle.pb_typing_calls.specs.declared.side.Side.TheVariants.{Left}

-- the text whose instances the layout has
abbrev pub IsOf : Sought → Spec → Type 0
IsOf s spec = IsLaidOut spec s.environment.layout.now

-- a formula can be evaluated over slots
abbrev pub FitsValues : Sought → Tuple → tree.Formula → Type 0
FitsValues s vs f = FormulaFits (length s.environment.layout.now) (length vs) (slots_of vs) f

-- each of some formulas can
abbrev pub FitValues : Sought → Tuple → List Formula → Type 0
FitValues s vs [] = ⊤
FitValues s vs (f ∷ fs) = FitsValues s vs (formula_view f) × FitValues s vs fs

-- whether a formula makes the call
abbrev pub is_made : Spec → Sought → Slots → Formula → Bool
is_made spec s a f =
    made spec (instance_of s.called.now) s.place a (formula_view f) (call_places f)

-- Whether a chain makes the call, operand by operand: its first one, where those behind it aren't
-- one test that decides, or those, where the first isn't a test that decides.
abbrev pub chain_makes : Spec → Sought → Slots → Connective → Formula → List Formula → Bool
chain_makes spec s a c first [] = is_made spec s a first
chain_makes spec s a c first (f ∷ fs) =
    (not (rest_decides spec a c (formula_views (f ∷ fs))) && is_made spec s a first)
    || (not (is_deciding spec a c Left (formula_view first)) && chain_makes spec s a c f fs)
