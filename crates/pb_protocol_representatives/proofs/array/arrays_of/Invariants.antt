use Rattle.std.proofs.Common.{◌≡◌, ◌++◌, map, drop, flat_map, List}
use Rattle.pb_protocol_tree.specs.declared.protocol.StateVariables as declared_variables
use Rattle.pb_protocol_tree.specs.Form.{state_variables_form}
use Rattle.pb_protocol_meaning.specs.Erase.{erased_state_variable}
use Rattle.pb_protocol_scalar_sets.specs.Sorts.{spec_of}
use Rattle.pb_protocol_representatives.specs.Tables.{ArrayForm, array_form, arrays_of}
use Rattle.pb_protocol_representatives.proofs.array.arrays_of.Given as goal

-- the groups that are left come after those that are there
abbrev pub invariant-loop-group : goal.invariant-loop-group
invariant-loop-group l =
    let all : List declared_variables.StateVariables → List ArrayForm = λ gs.
    arrays_of (spec_of l.set.protocol.now) l.set.sort.now (map erased_state_variable (flat_map state_variables_form gs)) in
    map array_form l.arrays.items ++ all (drop l.group-index l.set.protocol.now.state.items) ≡ all l.set.protocol.now.state.items
