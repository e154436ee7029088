use Rattle.std.proofs.Common.{◌≡◌, [], map, string_bytes}
use Rattle.pb_protocol_tree.specs.Form.{ProtocolForm}
use Rattle.pb_command_models.proofs.Symmetries.{AreLinesBefore}
use Rattle.pb_command_models.proofs.symmetry.without_symmetry.Given as goal

-- the lines so far
abbrev pub invariant-loop : goal.invariant-loop
invariant-loop l = record {
  satisfied : l.findings.satisfied.items ≡ [];
  lines : (protocol : ProtocolForm) → AreLinesBefore protocol l.places l.index (map string_bytes l.findings.lines.items);
}
