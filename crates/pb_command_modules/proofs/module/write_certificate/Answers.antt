use Rattle.std.proofs.Common.{◌≡◌, ℕ, List, sym, subst}
use Rattle.pb_game.specs.Certificates.{IsCertificate}
use Rattle.pb_game.specs.Solutions.{HasLengths}
use Rattle.pb_report.specs.CertificateText.{certificate_text}
use Rattle.pb_command_modules.proofs.Deliveries.{nothing_written, sent_up, sent_whole}
use Rattle.pb_command_faults.proofs.HandedUp.{failed_up}
use Rattle.pb_command_modules.proofs.Refusals.{too_large_up}
use Rattle.pb_command_modules.proofs.Texts.{certificate_of_module}
use Rattle.pb_command_modules.specs.Refusals.{IsRefusedModule}
use Rattle.pb_command_modules.specs.Writes.{WritesCertificate}
use Rattle.pb_command_modules.proofs.module.write_certificate.Goals as goal
use Rattle.pb_command_modules.proofs.module.write_certificate.Given.{Over}
use Rattle.pb_command_modules.proofs.module.write_certificate.Goals.{After-solution-certificate}

pub certificate_text-requires : goal.certificate_text-requires
certificate_text-requires g c =
    record { lengths = subst (HasLengths c.in_ok-module.«module».solved.built.game) (sym c.solution-certificate.ensures) c.in_ok-module.ensures.winners.certificate.lengths }

pub returns-in_err-module : goal.returns-in_err-module
returns-in_err-module g c = (
  (nothing_written g.S.Sink _ (WritesCertificate c.args.verified.now) c.args.writer.now c.in_err-module.field-0.0 c.from_residual.result c.from_residual.ensures.1),
  (too_large_up c.args.counting c.args.verified.now c.in_err-module.field-0.0 c.from_residual.result c.in_err-module.ensures c.from_residual.ensures.1),
)

-- the text of the certificate that is lent is one of the module
certificate_is : (g : Over) (c : After-solution-certificate g) (t : List ℕ)
    → t ≡ certificate_text c.in_ok-module.«module».solved.built.game c.solution-certificate.result.now → WritesCertificate c.args.verified.now t
certificate_is g c =
    let s = c.in_ok-module.«module» in
    let is = c.in_ok-module.ensures in
    let certificate = subst (IsCertificate s.solved.built.game) (sym c.solution-certificate.ensures) c.in_ok-module.ensures.winners.certificate in
    certificate_of_module c.args.verified.now s.explored is.explored s.solved.built is.game c.solution-certificate.result.now certificate

pub returns-in_err-certificate_text : goal.returns-in_err-certificate_text
returns-in_err-certificate_text g c = (
  (let text = certificate_is g (goal.at.returns-in_err-certificate_text g c).After-solution-certificate in
      sent_up g.S.Sink _ (WritesCertificate c.args.verified.now) text c.args.writer.now c.certificate_text.new.sink
      c.certificate_text.result c.in_err-certificate_text.field-0.0 c.from_residual-in_err-certificate_text.result c.certificate_text.ensures
      c.in_err-certificate_text.was c.from_residual-in_err-certificate_text.ensures.1),
  (failed_up (IsRefusedModule c.args.counting c.args.verified.now) c.in_err-certificate_text.field-0.0 c.from_residual-in_err-certificate_text.result
      c.from_residual-in_err-certificate_text.ensures.1),
)

pub returns : goal.returns
returns g c = (
  (let text = certificate_is g (goal.at.returns g c).After-solution-certificate in
      sent_whole g.S.Sink _ (WritesCertificate c.args.verified.now) text c.args.writer.now c.certificate_text.new.sink
      c.certificate_text.result c.in_ok-certificate_text.field-0 c.certificate_text.ensures c.in_ok-certificate_text.was),
  (tt),
)
