use Rattle.std.proofs.Common.{◌≡◌, ◌++◌, drop, map}
use Rattle.pb_text_tree.specs.Form.{variable_forms}
use Rattle.pb_text_meaning.specs.Erase.{erased_variables}
use Rattle.pb_protocol_folding.specs.Names.{names_of}
use Rattle.pb_protocol_whole_steps.specs.View.{name_in}
use Rattle.pb_protocol_whole_steps.proofs.names.own_names.Given as goal

-- the names so far, and those that are left
abbrev pub invariant-loop-group : goal.invariant-loop-group
invariant-loop-group l = map name_in l.names.items ++ names_of (erased_variables (variable_forms (drop l.group-index l.groups))) ≡ names_of (erased_variables (variable_forms l.groups))
