use Rattle.std.proofs.Common.{map, string_bytes}
use Rattle.pb_protocol_tree.specs.Form.{protocol_form}
use Rattle.pb_model_tree.specs.Form.{model_form}
use Rattle.pb_command_models.specs.Outcomes.{AreSatisfied}
use Rattle.pb_command_models.proofs.Symmetries.{AreLinesBefore}
use Rattle.pb_command_models.proofs.symmetry.findings_in.Given as goal

-- the properties so far, and their lines
abbrev pub invariant-loop-place : goal.invariant-loop-place
invariant-loop-place g l = record {
  satisfied : AreSatisfied l.findings.satisfied.items (model_form l.modelled.solved.now.typed.model);
  lines : AreLinesBefore (protocol_form l.modelled.protocol.now) l.places l.place-index (map string_bytes l.findings.lines.items);
}
