-- The calls of a formula in the order in which they are written: their places in the text, which
-- the typed tree of the code keeps.
use Rattle.std.specs.Prelude.{ℕ, ◌+◌, List, [], ◌∷◌, ◌++◌, flat_map, map}
use Rattle.pb_text_tree.specs.declared.place.Place.{Place}
use Rattle.pb_text_tree.specs.Form.{FormulaForm, EquationForm}
use Rattle.pb_typing_tree.specs.Tree as tree
use Rattle.pb_typing_tree.specs.Tree.{Test, Negation, Connected, Quantified, Call}
use Rattle.pb_typing_tree.specs.declared.formula.Equation.{Equation}
use Rattle.pb_typing_tree.specs.declared.formula.Formula as formula
use Rattle.pb_typing_tree.specs.declared.formula.Formula.{Formula}
use Rattle.pb_typing_tree.specs.declared.formula.Formula.{Row_of-Formula, end_of-Formula, more_of-Formula}

-- the places of the calls of a formula as it is read
abbrev pub calls_in : FormulaForm → List Place
calls_in (FormulaForm.constant p b) = []
calls_in (FormulaForm.val p x) = []
calls_in (FormulaForm.instance call) = call.name.place ∷ []
calls_in (FormulaForm.negation p f) = calls_in f
calls_in (FormulaForm.connected c p f g) = calls_in f ++ calls_in g
calls_in (FormulaForm.quantified q p xs f) = calls_in f

-- of each equation of a text
abbrev pub text_calls : List EquationForm → List (List Place)
text_calls E = map (λ (X : EquationForm). calls_in X.right) E

-- the places that the calls of a typed formula have
abbrev mutual
  pub call_places : Formula → List Place
  call_places (formula.Test x) = []
  call_places (formula.Negation' p f) = call_places f
  call_places (formula.Chain' connective p first shape row) = call_places first ++ places_in row
  call_places (formula.Quantified' quantifier slot carriers p body) = call_places body
  call_places (formula.Call place equation arguments) = place ∷ []

  pub places_in : {m : _} → Row_of-Formula m → List Place
  places_in end_of-Formula = []
  places_in (more_of-Formula f row) = call_places f ++ places_in row

-- of some formulas, one behind the other
abbrev pub places_of : List Formula → List Place
places_of fs = flat_map call_places fs

-- of each equation
abbrev pub tree_calls : List Equation → List (List Place)
tree_calls E = map (λ (X : Equation). call_places X.right) E

-- how many calls a formula has
abbrev pub calls : tree.Formula → ℕ
calls (Test x) = 0
calls (Negation f) = calls f
calls (Connected c f g) = calls f + calls g
calls (Quantified q s shape f) = calls f
calls (Call X es) = 1
