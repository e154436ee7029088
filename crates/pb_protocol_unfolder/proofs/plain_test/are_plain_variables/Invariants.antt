use Rattle.std.proofs.Common.{◌≡◌, drop}
use Rattle.std.specs.List.{list_all}
use Rattle.pb_protocol_unfolder.specs.View.{has_no_indices}
use Rattle.pb_protocol_unfolder.proofs.plain_test.are_plain_variables.Given as goal

abbrev pub invariant-loop-variable : goal.invariant-loop-variable
invariant-loop-variable l = list_all has_no_indices (drop l.variable-index l.variables) ≡ list_all has_no_indices l.variables
