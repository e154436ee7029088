use Rattle.std.proofs.Common.{drop}
use Rattle.pb_model_meaning.specs.Erase.{model_of}
use Rattle.pb_protocol_groups.proofs.Cuts.{AreBehind}
use Rattle.pb_protocol_groups.proofs.grouping.groups_of.Given as goal

abbrev pub invariant-loop-size : goal.invariant-loop-size
invariant-loop-size l = AreBehind (model_of l.model) l.grouping l.variables.items (drop l.size-index l.size-items) l.first
