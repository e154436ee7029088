-- The variables of a sort, declared sorts, the values of a step and the sets of `fair`, as lists.
use Rattle.std.specs.Prelude.{List, map, Option, Some, None}
use Rattle.std.specs.Borrow.{Bor}
use Rattle.pb_text_tree.specs.declared.place.Place.{Place}
use Rattle.pb_text_tree.specs.Form.{TermForm, sort_declaration_form}
use Rattle.pb_text_tree.specs.Form.{Named, VariableForm, named, term_form, variable_forms}
use Rattle.pb_text_tree.specs.declared.name.Name as declared_name
use Rattle.pb_text_tree.specs.declared.term.Argument.{Argument}
use Rattle.pb_protocol_tree.specs.declared.protocol.StateVariable.{StateVariable}
use Rattle.pb_model_text.specs.Grammar.{given_value}
use Rattle.pb_protocol_tree.specs.declared.header.Bounds as declared_bounds
use Rattle.pb_protocol_tree.specs.Form.{StepValueForm, StepSetForm, BoundsForm, step_set_form}
use Rattle.pb_protocol_tree.specs.Form.{bounds_form}
use Rattle.pb_model_text.specs.Models.{DeclaredSort}
use Rattle.pb_model_text.specs.declared.sort.DeclaredSort as declared_sort
use Rattle.pb_model_text.specs.declared.processes.Processes.{Processes}

-- the name of a state variable, and its indices
abbrev pub indexed : StateVariable → Named × List VariableForm
indexed x = (named x.name, variable_forms x.indices.items)

-- what an argument in a set of steps stands for
abbrev pub step_value_of : Argument → StepValueForm
step_value_of a = given_value a.place (term_form a.term)

-- the sets of `fair`, the first apart
abbrev pub processes_form : Processes → StepSetForm × List StepSetForm
processes_form x = (step_set_form x.first, map step_set_form x.others.items)

-- the bounds of a declared sort, where it has some
abbrev pub bounds_said : Option declared_bounds.Bounds → Option BoundsForm
bounds_said None = None
bounds_said (Some b) = Some (bounds_form b)

abbrev pub declared_sort_form : declared_sort.DeclaredSort → DeclaredSort
declared_sort_form s = record {
  declaration = sort_declaration_form s.declaration;
  bounds = bounds_said s.bounds;
}

-- a name that a term is, if it is one
abbrev pub name_said : Option (Bor declared_name.Name) → Option Named
name_said None = None
name_said (Some n) = Some (named n.now)

-- an argument, with the place of its first token
abbrev pub placed_term : Argument → Place × TermForm
placed_term a = (a.place, term_form a.term)
