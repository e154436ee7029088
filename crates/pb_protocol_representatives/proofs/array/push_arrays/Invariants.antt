use Rattle.std.proofs.Common.{◌≡◌, ◌++◌, map, drop, List}
use Rattle.pb_protocol_tree.specs.declared.protocol.StateVariable as declared_variable
use Rattle.pb_protocol_tree.specs.Form.{state_variable_form}
use Rattle.pb_protocol_meaning.specs.Erase.{erased_state_variable}
use Rattle.pb_protocol_scalar_sets.specs.Sorts.{spec_of}
use Rattle.pb_protocol_representatives.specs.Tables.{ArrayForm, array_form, arrays_of}
use Rattle.pb_protocol_representatives.proofs.array.push_arrays.Given as goal

-- the variables that are left come after those that are there
abbrev pub invariant-loop-variable : goal.invariant-loop-variable
invariant-loop-variable l =
    let all : List declared_variable.StateVariable → List ArrayForm = λ ys.
    arrays_of (spec_of l.set.protocol.now) l.set.sort.now (map erased_state_variable (map (state_variable_form l.group.sort) ys)) in
    map array_form l.arrays.items ++ all (drop l.variable-index l.group.variables.items) ≡ map array_form l.initial.arrays.items ++ all l.group.variables.items
