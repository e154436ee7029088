-- What steps and properties say, and what of them packing leaves as it is.
use Rattle.std.specs.Prelude.{List, map}
use Rattle.pb_text_tree.specs.Form.{Named, named}
use Rattle.pb_model_tree.specs.declared.step.Step as tree_step
use Rattle.pb_model_tree.specs.declared.model.Property as tree_property
use Rattle.pb_model_tree.specs.Form.{FormulaForm, property_form}
use Rattle.pb_model_meaning.specs.Syntax.{Step, Property}
use Rattle.pb_model_meaning.specs.Erase.{erased_property}
use Rattle.pb_protocol_packing.specs.Said.{Scope}
use Rattle.pb_protocol_packing.specs.Packing.{formula_said}
use Rattle.pb_protocol_packer.specs.Formulas.{shape_of}
use Rattle.pb_protocol_packer.specs.Steps.{step_of}

abbrev pub erased_step_list : List tree_step.Step → List Step
erased_step_list = map step_of

abbrev pub step_name : tree_step.Step → Named
step_name a = named a.name

abbrev pub names_of_steps : List tree_step.Step → List Named
names_of_steps = map step_name

abbrev pub property_of : tree_property.Property → Property
property_of p = erased_property (property_form p)

abbrev pub properties_in : List tree_property.Property → List Property
properties_in = map property_of

abbrev pub property_said : Scope → Property → Property
property_said σ p = record { name = p.name; formula = formula_said σ p.formula }

-- its name with its place, and its formula without data
abbrev pub property_name : tree_property.Property → Named
property_name p = named p.name

abbrev pub property_names : List tree_property.Property → List Named
property_names = map property_name

abbrev pub property_shape : tree_property.Property → FormulaForm
property_shape p = shape_of p.formula

abbrev pub property_shapes : List tree_property.Property → List FormulaForm
property_shapes = map property_shape
