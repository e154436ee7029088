-- The links of chains, as lists.
use Rattle.std.specs.Prelude.{List, map}
use Rattle.pb_text_tree.specs.declared.place.Place.{Place}
use Rattle.pb_protocol_tree.specs.declared.formula.Link.{Link}
use Rattle.pb_protocol_tree.specs.declared.step_set.StepSetLink.{StepSetLink}
use Rattle.pb_protocol_tree.specs.Form.{StepSetForm, step_set_form, FormulaForm, formula_form}

-- a link, with the place of its operator
abbrev pub step_set_link : StepSetLink → Place × StepSetForm
step_set_link link = (link.place, step_set_form link.operand)

abbrev pub step_set_links : List StepSetLink → List (Place × StepSetForm)
step_set_links = map step_set_link

abbrev pub link_form : Link → Place × FormulaForm
link_form link = (link.place, formula_form link.operand)

abbrev pub link_forms : List Link → List (Place × FormulaForm)
link_forms = map link_form
