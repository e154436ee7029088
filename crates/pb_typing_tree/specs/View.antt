-- What a typed tree of the code says, without boxes and vectors: a chain is folded to nested binary
-- nodes, and a quantifier stands for one variable.
use Rattle.std.specs.Prelude.{ℕ, suc, List, [], ◌∷◌, map}
use Rattle.pb_sorts.specs.declared.carrier.Carrier.{Carrier}
use Rattle.pb_text_tree.specs.declared.operator.Arithmetic.{Arithmetic}
use Rattle.pb_text_tree.specs.declared.operator.Quantifier.{Quantifier}
use Rattle.pb_text_meaning.specs.Erase.{of_connective, of_comparison, of_arithmetic}
use Rattle.pb_typing_declarations.specs.Shapes as shapes
use Rattle.pb_typing_declarations.specs.Entries.{shape_of, shapes_of}
use Rattle.pb_typing_tree.specs.Tree as tree
use Rattle.pb_typing_tree.specs.Tree.{Binary}
use Rattle.pb_typing_tree.specs.declared.shape.Shape.{Shape}
use Rattle.pb_typing_tree.specs.declared.shape.Shape.TheVariants as shape
use Rattle.pb_typing_tree.specs.declared.term.Term as term
use Rattle.pb_typing_tree.specs.declared.term.Term.{Term, Row_of-Term, end_of-Term, more_of-Term, Row_of-Link, end_of-Link, more_of-Link}
use Rattle.pb_typing_tree.specs.declared.term.Link.{Link}
use Rattle.pb_typing_tree.specs.declared.formula.Argument as declared_argument
use Rattle.pb_typing_tree.specs.declared.formula.Equation.{Equation}
use Rattle.pb_typing_tree.specs.declared.formula.Formula as formula
use Rattle.pb_typing_tree.specs.declared.formula.Formula.{Formula, Row_of-Formula, end_of-Formula, more_of-Formula}

abbrev pub shape_view : Shape → shapes.Shape
shape_view shape.Truths = shapes.Truths
shape_view (shape.Places sort count) = shapes.Places sort count
shape_view (shape.Wholes i) = shapes.Wholes i.low i.high

-- operands read to the right: first o (operand o (operand ..))
abbrev pub chained_formula : {F : Type 0} → (F → F → F) → F → List F → F
chained_formula join first [] = first
chained_formula join first (x ∷ xs) = join first (chained_formula join x xs)

-- operands of arithmetic, read to the left
abbrev pub term_of_operands : tree.Term → List (Arithmetic × tree.Term) → tree.Term
term_of_operands first [] = first
term_of_operands first ((o, x) ∷ links) = term_of_operands (Binary (of_arithmetic o) first x) links

abbrev mutual
  pub term_view : Term → tree.Term
  term_view (term.Constant b) = tree.Term.Truth b
  term_view (term.Number n) = tree.Number n
  term_view (term.Enumerator e) = tree.Enumerator e.sort e.place
  term_view (term.Slot s) = tree.Slot s
  term_view (term.Not' p x) = tree.Not (term_view x)
  term_view (term.Negative' p x) = tree.Negative (term_view x)
  term_view (term.Absolute' p x) = tree.Absolute (term_view x)
  term_view (term.Successor' p x) = tree.Successor (term_view x)
  term_view (term.Predecessor' p x) = tree.Predecessor (term_view x)
  term_view (term.Chain' connective p first shape row) =
      chained_formula (Binary (of_connective connective)) (term_view first) (terms_in row)
  term_view (term.Comparison' comparison p left q right) =
      Binary (of_comparison comparison) (term_view left) (term_view right)
  term_view (term.Arithmetic' p first shape row) = term_of_operands (term_view first) (links_in row)
  term_view (term.Maximum' p x q y) = tree.Maximum (term_view x) (term_view y)
  term_view (term.Minimum' p x q y) = tree.Minimum (term_view x) (term_view y)
  term_view (term.Choice' p c q x r y) = tree.Choice (term_view c) (term_view x) (term_view y)
  term_view (term.Recognised' e p x) = tree.Recognised e.sort e.place (term_view x)

  pub terms_in : {m : _} → Row_of-Term m → List tree.Term
  terms_in end_of-Term = []
  terms_in (more_of-Term x row) = term_view x ∷ terms_in row

  pub links_in : {m : _} → Row_of-Link m → List (Arithmetic × tree.Term)
  links_in end_of-Link = []
  links_in (more_of-Link operator operand row) = (operator, term_view operand) ∷ links_in row

abbrev pub term_views : List Term → List tree.Term
term_views = map term_view

abbrev pub link_view : Link → Arithmetic × tree.Term
link_view link = (link.operator, term_view link.operand)

abbrev pub link_views : List Link → List (Arithmetic × tree.Term)
link_views = map link_view

-- ---- formulas

-- one quantifier for each carrier, the next slots being theirs
abbrev pub nested : Quantifier → ℕ → List Carrier → tree.Formula → tree.Formula
nested q slot [] f = f
nested q slot (c ∷ cs) f = tree.Quantified q slot (shape_of c) (nested q (suc slot) cs f)

abbrev pub argument_view : declared_argument.Argument → tree.Argument
argument_view e = record { term = term_view e.term; shape = shape_view e.shape }

abbrev mutual
  pub formula_view : Formula → tree.Formula
  formula_view (formula.Test x) = tree.Test (term_view x)
  formula_view (formula.Negation' p f) = tree.Negation (formula_view f)
  formula_view (formula.Chain' connective p first shape row) =
      chained_formula (tree.Connected connective) (formula_view first) (formulas_in row)
  formula_view (formula.Quantified' quantifier slot carriers p body) =
      nested quantifier slot carriers.items (formula_view body)
  formula_view (formula.Call place equation arguments) =
      tree.Call equation (map argument_view arguments.items)

  pub formulas_in : {m : _} → Row_of-Formula m → List tree.Formula
  formulas_in end_of-Formula = []
  formulas_in (more_of-Formula f row) = formula_view f ∷ formulas_in row

abbrev pub formula_views : List Formula → List tree.Formula
formula_views = map formula_view

-- the right sides of equations, in order
abbrev pub right_views : List Equation → List tree.Formula
right_views = map (λ (X : Equation). formula_view X.right)

-- the shapes of the slots behind the parameters, equation by equation
abbrev pub loop_shapes : List Equation → List (List shapes.Shape)
loop_shapes = map (λ (X : Equation). shapes_of X.loops.items)
