use Rattle.std.proofs.Common.{◌≡◌, drop, map}
use Rattle.std.specs.List.{list_all}
use Rattle.pb_protocol_scalar_sets.specs.Sorts.{spec_of}
use Rattle.pb_protocol_scalar_sets.specs.Symmetric.{have_values}
use Rattle.pb_protocol_scalar_sets.specs.View.{signature_said}
use Rattle.pb_protocol_scalar_sets.proofs.protocol.have_values.Given as goal

-- those that are left
abbrev pub invariant-loop-signature : goal.invariant-loop-signature
invariant-loop-signature l =
    let all = list_all (have_values (spec_of l.protocol)) in all (map signature_said l.signatures) ≡ all (map signature_said (drop l.signature-index l.signatures))
