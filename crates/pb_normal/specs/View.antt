-- What a normal form of the code says, without boxes and vectors: a chain is folded to nested
-- binary nodes, and a quantifier stands for one variable.
use Rattle.std.specs.Prelude.{ℕ, suc, List, [], ◌∷◌, map}
use Rattle.pb_sorts.specs.declared.carrier.Carrier.{Carrier}
use Rattle.pb_text_tree.specs.declared.operator.Quantifier.{Quantifier}
use Rattle.pb_typing_declarations.specs.Shapes.{Shape}
use Rattle.pb_typing_declarations.specs.Entries.{shape_of}
use Rattle.pb_typing.specs.View.{is_positive}
pub use Rattle.pb_typing_declarations.specs.Entries.{shapes_of}
pub use Rattle.pb_typing_tree.specs.View.{chained_formula, term_of_operands, term_view, term_views}
pub use Rattle.pb_typing_tree.specs.View.{link_views, argument_view}
use Rattle.pb_normal.specs.Normal as normal
use Rattle.pb_normal.specs.Normal.{Each, Join, Call}
use Rattle.pb_normal.specs.Normalisation.{signed_test}
use Rattle.pb_normal.specs.declared.normal.Equation as declared_equation
use Rattle.pb_normal.specs.declared.formula.Formula as formula
use Rattle.pb_normal.specs.declared.formula.Formula.{Formula, Row_of-Formula, end_of-Formula, more_of-Formula}

-- one quantifier for each carrier, the next slots being theirs
abbrev pub nested : Quantifier → ℕ → List Carrier → normal.Formula → normal.Formula
nested q slot [] f = f
nested q slot (c ∷ cs) f = Each q slot (shape_of c) (nested q (suc slot) cs f)

-- ---- formulas

abbrev mutual
  pub formula_view : Formula → normal.Formula
  formula_view (formula.Test polarity x) = signed_test (is_positive polarity) (term_view x.now)
  formula_view (formula.Join' junction p first shape row) =
      chained_formula (Join junction) (formula_view first) (formulas_in row)
  formula_view (formula.Each' quantifier slot carriers p body) =
      nested quantifier slot carriers.now (formula_view body)
  formula_view (formula.Call equation arguments) = Call equation (map argument_view arguments.now)

  pub formulas_in : {m : _} → Row_of-Formula m → List normal.Formula
  formulas_in end_of-Formula = []
  formulas_in (more_of-Formula f row) = formula_view f ∷ formulas_in row

abbrev pub formula_views : List Formula → List normal.Formula
formula_views = map formula_view

-- the right sides of equations, in order
abbrev pub right_views : List declared_equation.Equation → List normal.Formula
right_views = map (λ (X : declared_equation.Equation). formula_view X.right)

-- the shapes of the slots behind the parameters, equation by equation
abbrev pub loop_shapes : List declared_equation.Equation → List (List Shape)
loop_shapes = map (λ (X : declared_equation.Equation). shapes_of X.loops.now)
