-- What formulas say, and what of them packing leaves as it is.
use Rattle.std.specs.Prelude.{List, true, map}
use Rattle.pb_text_tree.specs.declared.place.Place.{Place}
use Rattle.pb_text_tree.specs.Form.{TermForm}
use Rattle.pb_model_tree.specs.declared.step_set.StepSetLink.{StepSetLink}
use Rattle.pb_model_tree.specs.declared.formula.Formula as tree
use Rattle.pb_model_tree.specs.declared.formula.Link.{Link}
use Rattle.pb_model_tree.specs.Form.{StepSetForm, step_set_form, FormulaForm, formula_form}
use Rattle.pb_model_meaning.specs.Syntax.{Formula}
use Rattle.pb_model_meaning.specs.Erase.{erased_formula}

-- ---- sets of steps

abbrev pub set_link : StepSetLink → Place × StepSetForm
set_link link = (link.place, step_set_form link.operand)

abbrev pub set_links : List StepSetLink → List (Place × StepSetForm)
set_links = map set_link

-- ---- formulas

abbrev pub formula_of : tree.Formula → Formula
formula_of f = erased_formula (formula_form f)

-- the operands of a chain's links, in order
abbrev pub operand_of : Link → Formula
operand_of link = formula_of link.operand

abbrev pub operands_of : List Link → List Formula
operands_of = map operand_of

-- a formula without its data
abbrev pub without_data : FormulaForm → FormulaForm
without_data (FormulaForm.constant p b) = FormulaForm.constant p b
without_data (FormulaForm.«data» p x) = FormulaForm.«data» p (TermForm.constant p true)
without_data (FormulaForm.variable x) = FormulaForm.variable x
without_data (FormulaForm.negation p f) = FormulaForm.negation p (without_data f)
without_data (FormulaForm.connected c p f g) =
    FormulaForm.connected c p (without_data f) (without_data g)
without_data (FormulaForm.modal k p A f) = FormulaForm.modal k p A (without_data f)
without_data (FormulaForm.fixpoint sign p x f) = FormulaForm.fixpoint sign p x (without_data f)

abbrev pub shape_of : tree.Formula → FormulaForm
shape_of f = without_data (formula_form f)

abbrev pub link_shape : Link → Place × FormulaForm
link_shape link = (link.place, shape_of link.operand)

abbrev pub link_shapes : List Link → List (Place × FormulaForm)
link_shapes = map link_shape
