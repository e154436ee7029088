use Rattle.std.proofs.Common.{◌≡◌, drop, map}
use Rattle.pb_protocol_scalar_sets.specs.Symmetric.{is_new}
use Rattle.pb_protocol_scalar_sets.specs.View.{signature_said}
use Rattle.pb_protocol_scalar_sets.proofs.protocol.is_new.Given as goal

-- none of those that are left
abbrev pub invariant-loop-signature : goal.invariant-loop-signature
invariant-loop-signature l = is_new l.name (map signature_said l.signatures) ≡ is_new l.name (map signature_said (drop l.signature-index l.signatures))
