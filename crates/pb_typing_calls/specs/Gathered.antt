-- The calls that a typed formula makes under values of its slots. The formula is given with the
-- places of its calls, in their order, and with the slots of the quantifiers around it.
use Rattle.std.specs.Prelude.{ℕ, ◌==◌, Bool, ◌&&◌, if◌then◌else◌, ⊤, List, [], ◌∷◌, ◌++◌}
use Rattle.std.specs.Prelude.{map, flat_map, take, drop, length}
use Rattle.pb_fixpoint.specs.Solution.{empty}
use Rattle.pb_text_tree.specs.declared.place.Place.{Place}
use Rattle.pb_text_tree.specs.declared.operator.Connective.{Connective}
use Rattle.pb_base_values.specs.Carrier.{Tuple}
use Rattle.pb_text_meaning.specs.Syntax.{Spec}
use Rattle.pb_typing_declarations.specs.Shapes.{shape_carrier}
use Rattle.pb_typing_tree.specs.Calls.{call_places, calls}
use Rattle.pb_typing_tree.specs.Fits.{FormulaFits}
use Rattle.pb_typing_tree.specs.Meaning.{Slots, set, truth}
use Rattle.pb_typing_tree.specs.Tree as tree
use Rattle.pb_typing_tree.specs.Tree.{Argument, Test, Negation, Connected, Quantified, Call}
use Rattle.pb_typing_tree.specs.View.{formula_view}
use Rattle.pb_typing_tree.specs.declared.formula.Formula.{Formula}
use Rattle.pb_typing_values.specs.Slots.{slots_of}
use Rattle.pb_typing_calls.specs.Calls.{decides}
use Rattle.pb_typing_calls.specs.Made.{argument_values}
use Rattle.pb_typing_calls.specs.MadeCalls.{MadeCall}
use Rattle.pb_typing_calls.specs.declared.scope.Scope.{Scope}
use Rattle.pb_typing_calls.specs.declared.side.Side.TheVariants.{Left}

-- a first operand without calls decides what it is connected to
abbrev pub decides_first : Spec → Slots → Connective → tree.Formula → Bool
decides_first spec a c f = (calls f == 0) && decides c Left (truth spec a empty f)

-- a call at the first of some places
abbrev pub call_at : List ℕ → Slots → ℕ → List Argument → List Place → List MadeCall
call_at own a X es [] = []
call_at own a X es (p ∷ ps) =
    record {
      place = p;
      own = map a own;
      instance = record { equation = X; values = argument_values a es };
    }
    ∷ []

abbrev pub gathered : Spec → List ℕ → Slots → tree.Formula → List Place → List MadeCall
gathered spec own a (Test x) ps = []
gathered spec own a (Negation f) ps = gathered spec own a f ps
gathered spec own a (Connected c f g) ps =
    gathered spec own a f (take (calls f) ps)
    ++ (if decides_first spec a c f then [] else gathered spec own a g (drop (calls f) ps))
gathered spec own a (Quantified q s shape f) ps =
    flat_map (λ v. gathered spec (own ++ s ∷ []) (set a s v) f ps) (shape_carrier shape)
gathered spec own a (Call X es) ps = call_at own a X es ps

-- ---- of the code's formulas

-- a formula can be evaluated over slots
abbrev pub FitsAt : Scope → Tuple → tree.Formula → Type 0
FitsAt s vs f = FormulaFits (length s.environment.layout.now) (length vs) (slots_of vs) f

-- each of some formulas can
abbrev pub FitAt : Scope → Tuple → List Formula → Type 0
FitAt s vs [] = ⊤
FitAt s vs (f ∷ fs) = FitsAt s vs (formula_view f) × FitAt s vs fs

abbrev pub calls_of : Spec → Scope → Slots → Formula → List MadeCall
calls_of spec s a f = gathered spec s.own.now a (formula_view f) (call_places f)

-- those of a chain, operand by operand
abbrev pub chain_calls : Spec → Scope → Slots → Connective → Formula → List Formula → List MadeCall
chain_calls spec s a c first [] = calls_of spec s a first
chain_calls spec s a c first (f ∷ fs) =
    calls_of spec s a first
    ++ (if decides_first spec a c (formula_view first) then [] else chain_calls spec s a c f fs)
