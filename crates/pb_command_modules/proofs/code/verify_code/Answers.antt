use Rattle.std.proofs.Common.{◌≡◌, ℕ, List}
use Rattle.std.specs.Prelude.{codes}
use Rattle.pb_command_modules.specs.Writes.{WritesAcceptance}
use Rattle.pb_command_modules.specs.Refusals.{IsUnverified}
use Rattle.pb_command_modules.proofs.Deliveries.{less_delivered, nothing_written, only_write}
use Rattle.pb_command_faults.proofs.HandedUp.{handed_up}
use Rattle.pb_command_modules.proofs.code.verify_code.Goals as goal

pub returns-in_err-_verified : goal.returns-in_err-_verified
returns-in_err-_verified g c = (
  (nothing_written g.S.Sink _ (WritesAcceptance c.args.counting c.args.bytes.now) c.args.writer.now
      c.in_err-_verified.field-0.0 c.from_residual.result c.from_residual.ensures.1),
  (let P = IsUnverified c.args.counting c.args.bytes.now in
      handed_up P P (λ f h. h) c.in_err-_verified.field-0.0 c.from_residual.result c.in_err-_verified.ensures.refused c.from_residual.ensures.1),
)

pub returns : goal.returns
returns g c = (
  (less_delivered g.S.Sink (λ (t : List ℕ). t ≡ codes "accepted\n") (WritesAcceptance c.args.counting c.args.bytes.now)
      (λ text h. (c.in_ok-_verified._verified, c.in_ok-_verified.ensures.«module», h))
      c.args.writer.now c.deliver.new.writer c.deliver.result c.deliver.ensures.text),
  (only_write (IsUnverified c.args.counting c.args.bytes.now) c.deliver.result c.deliver.ensures.failed),
)
