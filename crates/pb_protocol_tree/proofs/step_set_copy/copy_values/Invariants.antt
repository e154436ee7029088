use Rattle.std.proofs.Common.{◌≡◌, ◌++◌, drop, map}
use Rattle.pb_protocol_tree.specs.Form.{step_value_form}
use Rattle.pb_protocol_tree.proofs.step_set_copy.copy_values.Given as goal

abbrev pub invariant-loop-value : goal.invariant-loop-value
invariant-loop-value l = map step_value_form l.copies.items ++ map step_value_form (drop l.value-index l.values) ≡ map step_value_form l.values
