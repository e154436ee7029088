-- Names in parts of a model.
use Rattle.std.specs.Prelude.{List, map}
use Rattle.pb_text_tree.specs.declared.sort.Enumerator as declared_enumerator
use Rattle.pb_text_tree.specs.declared.variable.Variables.{Variables}
use Rattle.pb_text_tree.specs.Form.{variables_form, enumerator_form}
use Rattle.pb_text_meaning.specs.Erase.{erased_variables, erased_enumerator}
use Rattle.pb_text_meaning.specs.Syntax.{Name, Variable, Enumerator, Operator, Term}
use Rattle.pb_model_meaning.specs.Syntax.{Assignment, Property}
use Rattle.pb_protocol_packing.specs.Groups.{name_of, term_names, formula_names}

-- variables of one sort
abbrev pub variables_of_group : Variables → List Variable
variables_of_group group = erased_variables (variables_form group)

-- an operator with the operand behind it
abbrev pub operation_names : Operator × Term → List Name
operation_names o = term_names o.1

-- enumerators without places, and their names
abbrev pub enumerators_said : List declared_enumerator.Enumerator → List Enumerator
enumerators_said es = map erased_enumerator (map enumerator_form es)

abbrev pub names_of_enumerators : List declared_enumerator.Enumerator → List Name
names_of_enumerators es = map name_of (enumerators_said es)

abbrev pub assignment_names : Assignment → List Name
assignment_names b = term_names b.term

abbrev pub names_in_property : Property → List Name
names_in_property p = formula_names p.formula
