use Rattle.std.proofs.Common.{◌≡◌, take, map}
use Rattle.std.specs.Prelude.{reverse}
use Rattle.pb_protocol_symmetry.specs.Test.{signature_in}
use Rattle.pb_protocol_scalar_sets.specs.View.{signature_said, signature_behind}
use Rattle.pb_protocol_scalar_sets.proofs.signature.last_called.Given as goal

-- the last of those before this one
abbrev pub invariant-loop-signature : goal.invariant-loop-signature
invariant-loop-signature l = signature_behind l.found ≡ signature_in (reverse (map signature_said (take l.signature-index l.signatures))) l.name
