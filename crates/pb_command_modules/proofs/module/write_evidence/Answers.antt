use Rattle.pb_command_modules.proofs.Deliveries.{sent_up, sent_whole}
use Rattle.pb_command_modules.proofs.Texts.{evidence_of_module}
use Rattle.pb_command_faults.proofs.HandedUp.{failed_up}
use Rattle.pb_command_modules.specs.Refusals.{IsRefusedModule}
use Rattle.pb_command_modules.specs.Writes.{WritesEvidence}
use Rattle.pb_command_modules.proofs.module.write_evidence.Goals as goal

pub returns-in_err-evidence_text : goal.returns-in_err-evidence_text
returns-in_err-evidence_text g c = λ counting place are. (
  sent_up g.S.Sink _ (WritesEvidence c.args.verified.now place) (evidence_of_module c.args.verified.now c.args.placed.now.explanation.now c.requires.explanation place)
      c.args.writer.now c.evidence_text.new.sink c.evidence_text.result c.in_err-evidence_text.field-0.0 c.from_residual.result
      (c.evidence_text.ensures place are) c.in_err-evidence_text.was c.from_residual.ensures.1,
  failed_up (IsRefusedModule counting c.args.verified.now) c.in_err-evidence_text.field-0.0 c.from_residual.result c.from_residual.ensures.1,
)

pub returns : goal.returns
returns g c = λ counting place are. (
  sent_whole g.S.Sink _ (WritesEvidence c.args.verified.now place) (evidence_of_module c.args.verified.now c.args.placed.now.explanation.now c.requires.explanation place)
      c.args.writer.now c.evidence_text.new.sink c.evidence_text.result c.in_ok-evidence_text.field-0 (c.evidence_text.ensures place are) c.in_ok-evidence_text.was,
  tt,
)
