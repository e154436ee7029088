-- What was written is the listing of the module that was read.
use Rattle.std.proofs.Common.{◌≡◌, ◌∙◌, ℕ, List}
use Rattle.pb_bytecode.specs.Decoded.{module_contents}
use Rattle.pb_command_modules.specs.Writes.{WritesListing}
use Rattle.pb_command_modules.specs.Refusals.{IsUnlisted}
use Rattle.pb_command_modules.proofs.Deliveries.{less_delivered, nothing_in_want, nothing_written, only_write}
use Rattle.pb_command_faults.proofs.HandedUp.{handed_up, wanting_up}
use Rattle.pb_command_modules.proofs.code.list_code.Goals as goal

pub returns-in_err-module : goal.returns-in_err-module
returns-in_err-module g c = (
  (nothing_written g.S.Sink _ (WritesListing c.args.counting c.args.bytes.now) c.args.writer.now
      c.in_err-module.field-0.0 c.from_residual.result c.from_residual.ensures.1),
  (let P = IsUnlisted c.args.counting c.args.bytes.now in
      handed_up P P (λ f h. h) c.in_err-module.field-0.0 c.from_residual.result c.in_err-module.ensures.refused c.from_residual.ensures.1),
)

pub returns-in_err-listing : goal.returns-in_err-listing
returns-in_err-listing g c = (
  (nothing_in_want g.S.Sink (WritesListing c.args.counting c.args.bytes.now) c.args.writer.now
      c.from_residual-in_err-listing.result c.from_residual-in_err-listing.ensures.1),
  (wanting_up (IsUnlisted c.args.counting c.args.bytes.now) c.from_residual-in_err-listing.result c.from_residual-in_err-listing.ensures.1),
)

pub returns : goal.returns
returns g c = (
  (less_delivered g.S.Sink (λ (t : List ℕ). t ≡ c.as_slice.result.now) (WritesListing c.args.counting c.args.bytes.now)
      (λ text is. (
        module_contents c.in_ok-module.module,
        c.in_ok-module.ensures.«module»,
        is ∙ (c.as_slice.ensures.value ∙ c.in_ok-listing.ensures),
      )) c.args.writer.now c.deliver.new.writer c.deliver.result c.deliver.ensures.text),
  (only_write (IsUnlisted c.args.counting c.args.bytes.now) c.deliver.result c.deliver.ensures.failed),
)
