use Rattle.std.proofs.Common.{◌≡◌, drop, map}
use Rattle.pb_protocol_symmetry.specs.Test.{signature_in}
use Rattle.pb_protocol_scalar_sets.specs.View.{signature_said}
use Rattle.pb_protocol_scalar_sets.proofs.signature.first_called.Given as goal

-- the first is among those that are left
abbrev pub invariant-loop-signature : goal.invariant-loop-signature
invariant-loop-signature l = signature_in (map signature_said (drop l.signature-index l.signatures)) l.name ≡ signature_in (map signature_said l.signatures) l.name
