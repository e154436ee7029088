use Rattle.std.proofs.Common.{◌≡◌, drop, map}
use Rattle.std.specs.Prelude.{string_bytes}
use Rattle.pb_protocol_packing.specs.Apart.{is_among}
use Rattle.pb_protocol_groups.proofs.taken.is_given.Given as goal

abbrev pub invariant-loop-other : goal.invariant-loop-other
invariant-loop-other l = is_among (map string_bytes (drop l.other-index l.given)) l.name ≡ is_among (map string_bytes l.given) l.name
