use Rattle.std.proofs.Common.{drop}
use Rattle.pb_typing_nodes.proofs.SlotLemmas.{AreLeft}
use Rattle.pb_typing_nodes.proofs.variables.declare_variables.Given as goal

abbrev pub invariant-loop-group : goal.invariant-loop-group
invariant-loop-group l = AreLeft l.groups l.carriers l.first (drop l.group-index l.groups) l.slot l.table
