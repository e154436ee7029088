use Rattle.std.proofs.Common.{◌≡◌, ◌++◌, map, drop, List}
use Rattle.pb_protocol_tree.specs.declared.protocol.StateVariable as declared_variable
use Rattle.pb_protocol_tree.specs.Form.{state_variable_form}
use Rattle.pb_protocol_meaning.specs.Erase.{erased_state_variable}
use Rattle.pb_protocol_symmetry.specs.Kinds.{Signature}
use Rattle.pb_protocol_symmetry.specs.States.{signature_of}
use Rattle.pb_protocol_scalar_sets.specs.View.{signature_said}
use Rattle.pb_protocol_scalar_sets.proofs.declaration.push_group.Given as goal

-- the variables that are left come behind those that are there
abbrev pub invariant-loop-variable : goal.invariant-loop-variable
invariant-loop-variable l =
    let all : List declared_variable.StateVariable → List Signature = λ ys. map (signature_of l.sort) (map erased_state_variable (map (state_variable_form l.group.sort) ys)) in
    map signature_said l.signatures.items ++ all (drop l.variable-index l.group.variables.items) ≡ map signature_said l.initial.signatures.items ++ all l.group.variables.items
