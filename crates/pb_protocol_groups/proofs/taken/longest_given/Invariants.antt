use Rattle.std.proofs.Common.{◌≡◌, drop, map}
use Rattle.std.specs.Prelude.{string_bytes}
use Rattle.pb_model_translation.specs.Names.{longest}
use Rattle.pb_protocol_groups.proofs.taken.longest_given.Given as goal

abbrev pub invariant-loop-index : goal.invariant-loop-index
invariant-loop-index l = l.longest ≡ longest (map string_bytes (drop l.index l.given))
