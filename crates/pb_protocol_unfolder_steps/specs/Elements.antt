-- Elements, and steps with their values, as the code holds them.
use Rattle.std.specs.Prelude.{List, flat_map, string_bytes}
use Rattle.pb_text_tree.specs.declared.name.Name as declared_name
use Rattle.pb_text_tree.specs.Form.{variable_forms}
use Rattle.pb_text_meaning.specs.Syntax.{Term, Variable, Spec}
use Rattle.pb_text_meaning.specs.Erase.{erased_variables}
use Rattle.pb_protocol_tree.specs.declared.protocol.StateVariable as declared_variable
use Rattle.pb_protocol_tree.specs.declared.protocol.StateVariables as declared_state
use Rattle.pb_protocol_tree.specs.declared.step.Step as declared_step
use Rattle.pb_protocol_tree.specs.Form.{state_variable_form, step_form}
use Rattle.pb_protocol_meaning.specs.Erase.{erased_state_variable, erased_step}
use Rattle.pb_protocol_meaning.specs.Syntax.{Protocol}
use Rattle.pb_protocol_unfolding.specs.Unfolding.{Element, Instance, elements_of, instances_of}
use Rattle.pb_protocol_unfolding.specs.Unfolding.{whole_step, with_own}
use Rattle.pb_protocol_unfolder_terms.specs.Values.{tuple_of}
use Rattle.pb_protocol_unfolder_steps.specs.declared.element.Element as declared_element
use Rattle.pb_protocol_unfolder_steps.specs.declared.instance.Instance as declared_instance

-- ---- elements

-- the element of an array at an index
abbrev pub element_at : declared_name.Name → declared_name.Name → List Term → Element
element_at name sort index =
    record { array = string_bytes name.text; index = index; sort = string_bytes sort.text }

abbrev pub flat_element : declared_element.Element → Element
flat_element e = element_at e.name.now e.sort.now (tuple_of e.index)

abbrev pub elements_of_variable :
    Spec → declared_name.Name → declared_variable.StateVariable → List Element
elements_of_variable spec sort y =
    elements_of spec (erased_state_variable (state_variable_form sort y))

abbrev pub elements_of_group : Spec → declared_state.StateVariables → List Element
elements_of_group spec group =
    flat_map (elements_of_variable spec group.sort) group.variables.items

abbrev pub elements_of_state : Spec → List declared_state.StateVariables → List Element
elements_of_state spec state = flat_map (elements_of_group spec) state

-- ---- steps with their values

abbrev pub own_variables : declared_step.Step → List Variable
own_variables a = erased_variables (variable_forms a.variables.items)

abbrev pub instance_at : declared_step.Step → List Term → Instance
instance_at a own = with_own (erased_step (step_form a)) own

abbrev pub whole_at : declared_step.Step → Instance
whole_at a = whole_step (erased_step (step_form a))

abbrev pub instance_said : declared_instance.Instance → Instance
instance_said i = record {
  step = erased_step (step_form i.step.now);
  whole = i.whole;
  own = tuple_of i.own;
}

abbrev pub instances_of_step : Protocol → declared_step.Step → List Instance
instances_of_step m a = instances_of m (erased_step (step_form a))

abbrev pub instances_of_steps : Protocol → List declared_step.Step → List Instance
instances_of_steps m steps = flat_map (instances_of_step m) steps
