use Rattle.std.proofs.Common.{◌≡◌, drop}
use Rattle.pb_protocol_packing.specs.Apart.{is_among}
use Rattle.pb_protocol_packer.specs.Initial.{names_by}
use Rattle.pb_protocol_groups.proofs.taken.is_declared.Given as goal

abbrev pub invariant-loop-other : goal.invariant-loop-other
invariant-loop-other l = is_among (names_by (drop l.other-index l.declared)) l.name ≡ is_among (names_by l.declared) l.name
