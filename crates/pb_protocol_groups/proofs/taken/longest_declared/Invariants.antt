use Rattle.std.proofs.Common.{◌≡◌, drop}
use Rattle.pb_model_translation.specs.Names.{longest}
use Rattle.pb_protocol_packer.specs.Initial.{names_by}
use Rattle.pb_protocol_groups.proofs.taken.longest_declared.Given as goal

abbrev pub invariant-loop-index : goal.invariant-loop-index
invariant-loop-index l = l.longest ≡ longest (names_by (drop l.index l.declared))
