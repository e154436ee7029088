use Rattle.std.proofs.Common.{◌≡◌, map}
use Rattle.pb_text_tree.specs.Form.{named}
use Rattle.pb_protocol_unfolder.specs.View.{variable_name}
use Rattle.pb_protocol_unfolder.proofs.plain_step.flat_names.Given as goal

abbrev pub invariant-loop-variable : goal.invariant-loop-variable
invariant-loop-variable l = map named l.names.items ≡ map variable_name l.yielded
