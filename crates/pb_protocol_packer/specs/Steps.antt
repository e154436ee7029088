-- What steps say, without places.
use Rattle.std.specs.Prelude.{List, map}
use Rattle.pb_model_tree.specs.declared.step.Assignment as tree_assignment
use Rattle.pb_model_tree.specs.declared.step.Step as tree_step
use Rattle.pb_model_tree.specs.Form.{assignment_form, step_form}
use Rattle.pb_model_meaning.specs.Syntax.{Assignment, Step}
use Rattle.pb_model_meaning.specs.Erase.{erased_assignment, erased_step}
use Rattle.pb_protocol_packing.specs.Said.{Scope, said}

abbrev pub assignment_of : tree_assignment.Assignment → Assignment
assignment_of a = erased_assignment (assignment_form a)

abbrev pub assignments_in : List tree_assignment.Assignment → List Assignment
assignments_in = map assignment_of

abbrev pub step_of : tree_step.Step → Step
step_of a = erased_step (step_form a)

-- what is assigned, over the variables of the packed model
abbrev pub assignment_said : Scope → Assignment → Assignment
assignment_said σ a = record { variable = a.variable; term = said σ a.term }

abbrev pub assignments_said : Scope → List Assignment → List Assignment
assignments_said σ = map (assignment_said σ)
