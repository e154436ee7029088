-- Typed terms and formulas that fit, so that they can be evaluated in 64 bits over a list of slots:
-- each value on the way is within 2^62, each divisor at least 1, each slot and each callee is
-- there, and the slot of a quantifier is free.
use Rattle.std.specs.Prelude.{◌≡◌, ℕ, ◌+◌, ◌<◌, ◌≤◌, pos, true, ⊤, List, [], ◌∷◌, length}
use Rattle.pb_base_values.specs.Carrier.{Value, Tuple, contains, is_within}
use Rattle.pb_text_meaning.specs.Syntax.{Equation, Spec}
use Rattle.pb_text_meaning.specs.Formula.{carriers_of}
use Rattle.pb_text_meaning.specs.Fits.{IsBounded, DivisorFits}
use Rattle.pb_typing_declarations.specs.Shapes.{shape_carrier}
use Rattle.pb_typing_tree.specs.Tree.{Term, Number, Slot, Negative, Absolute, Successor, Predecessor}
use Rattle.pb_typing_tree.specs.Tree.{Binary, Maximum, Minimum, Choice, Recognised, Argument}
use Rattle.pb_typing_tree.specs.Tree.{Formula, Test, Negation, Connected, Quantified, Call}
use Rattle.pb_typing_tree.specs.Meaning.{Slots, set, value}
use Rattle.pb_typing_tree.specs.Elaboration.{elaborated_equation}
use Rattle.pb_typing_tree.specs.Equations.{Hold}
use Rattle.pb_typing_tree.specs.Loops.{equation_loops}

-- a data term, where there are n slots
abbrev pub Fits : ℕ → Slots → Term → Type 0
Fits n a (Term.Truth b) = ⊤
Fits n a (Number k) = IsBounded (pos k)
Fits n a (Term.Enumerator s i) = IsBounded (pos i)
Fits n a (Slot s) = (s < n) × IsBounded (a s)
Fits n a (Term.Not x) = Fits n a x
Fits n a (Negative x) = Fits n a x × IsBounded (value a (Negative x))
Fits n a (Absolute x) = Fits n a x × IsBounded (value a (Absolute x))
Fits n a (Successor x) = Fits n a x × IsBounded (value a (Successor x))
Fits n a (Predecessor x) = Fits n a x × IsBounded (value a (Predecessor x))
Fits n a (Binary o x y) =
    Fits n a x × Fits n a y × DivisorFits o (value a y) × IsBounded (value a (Binary o x y))
Fits n a (Maximum x y) = Fits n a x × Fits n a y
Fits n a (Minimum x y) = Fits n a x × Fits n a y
Fits n a (Choice c x y) = Fits n a c × Fits n a x × Fits n a y
Fits n a (Recognised s i x) = Fits n a x

abbrev pub AllFit : ℕ → Slots → List Argument → Type 0
AllFit n a [] = ⊤
AllFit n a (e ∷ es) = Fits n a e.term × AllFit n a es

-- A formula, where there are k equations and n slots. The slot of a quantifier holds 0 outside of
-- it, so that an evaluator leaves all slots as they were.
abbrev pub FormulaFits : ℕ → ℕ → Slots → Formula → Type 0
FormulaFits k n a (Test x) = Fits n a x
FormulaFits k n a (Negation f) = FormulaFits k n a f
FormulaFits k n a (Connected c f g) = FormulaFits k n a f × FormulaFits k n a g
FormulaFits k n a (Quantified q s shape f) =
    (s < n) × (a s ≡ pos 0)
    × ((v : Value) → contains (shape_carrier shape) v ≡ true → FormulaFits k n (set a s v) f)
FormulaFits k n a (Call X es) = (X < k) × AllFit n a es

-- the slots from n on hold 0
abbrev pub AreClear : ℕ → Slots → Type 0
AreClear n a = (s : ℕ) → n ≤ s → a s ≡ pos 0

-- how many slots the right side of an equation has: one for each parameter, and one for each
-- variable of its quantifiers
abbrev pub slot_count : Spec → Equation → ℕ
slot_count spec X = length X.parameters + length (equation_loops spec X)

-- the typed tree of an equation fits at each instance, whose values the first slots hold
abbrev pub EquationFits : Spec → Equation → Type 0
EquationFits spec X =
    (vs : Tuple) (slots : Slots) → is_within (carriers_of spec X.parameters) vs ≡ true
    → Hold slots vs → AreClear (length X.parameters) slots
    → FormulaFits (length spec.equations) (slot_count spec X) slots (elaborated_equation spec X)
