use Rattle.std.proofs.Common.{◌≡◌, ◌++◌, drop, map}
use Rattle.pb_text_tree.specs.Form.{variables_form}
use Rattle.pb_text_meaning.specs.Erase.{erased_variables}
use Rattle.pb_protocol_packer.specs.View.{texts_of}
use Rattle.pb_protocol_packer.specs.Initial.{names_by, variable_name}
use Rattle.pb_protocol_packer.proofs.model.push_names.Given as goal

abbrev pub invariant-loop-name : goal.invariant-loop-name
invariant-loop-name l =
    names_by l.initial.names.items ++ map variable_name (erased_variables (variables_form l.group)) ≡ names_by l.names.items ++ texts_of (drop l.name-index l.name-items)
