use Rattle.std.proofs.Common.{◌≡◌, drop, map}
use Rattle.pb_protocol_scalar_sets.specs.Symmetric.{are_apart}
use Rattle.pb_protocol_scalar_sets.specs.View.{signature_said}
use Rattle.pb_protocol_scalar_sets.proofs.protocol.are_apart.Given as goal

-- those that are left
abbrev pub invariant-loop-place : goal.invariant-loop-place
invariant-loop-place l = are_apart (map signature_said l.signatures) ≡ are_apart (map signature_said (drop l.place l.signatures))
