use Rattle.std.proofs.Common.{◌≡◌, drop}
use Rattle.pb_text_tree.specs.Form.{variable_forms}
use Rattle.pb_protocol_unfolder.specs.Plain.{has_no_variables}
use Rattle.pb_protocol_unfolder.proofs.plain_test.declares_none.Given as goal

abbrev pub invariant-loop-group : goal.invariant-loop-group
invariant-loop-group l = has_no_variables (variable_forms (drop l.group-index l.groups)) ≡ has_no_variables (variable_forms l.groups)
