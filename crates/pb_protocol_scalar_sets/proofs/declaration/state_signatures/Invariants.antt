use Rattle.std.proofs.Common.{◌≡◌, ◌++◌, map, drop, flat_map, List}
use Rattle.pb_protocol_tree.specs.declared.protocol.StateVariables as declared_variables
use Rattle.pb_protocol_tree.specs.Form.{state_variables_form}
use Rattle.pb_protocol_meaning.specs.Erase.{erased_state_variable}
use Rattle.pb_protocol_symmetry.specs.Kinds.{Signature}
use Rattle.pb_protocol_symmetry.specs.States.{signature_of}
use Rattle.pb_protocol_scalar_sets.specs.View.{signature_said}
use Rattle.pb_protocol_scalar_sets.proofs.declaration.state_signatures.Given as goal

-- the groups that are left come behind those that are there
abbrev pub invariant-loop-group : goal.invariant-loop-group
invariant-loop-group l =
    let all : List declared_variables.StateVariables → List Signature = λ gs. map (signature_of l.set.sort.now) (map erased_state_variable (flat_map state_variables_form gs)) in
    map signature_said l.signatures.items ++ all (drop l.group-index l.set.protocol.now.state.items) ≡ all l.set.protocol.now.state.items
