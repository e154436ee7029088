-- What was written spells the module of what was read.
use Rattle.std.proofs.Common.{◌≡◌, ◌∙◌, ℕ, List}
use Rattle.pb_text_tree.specs.Form.{spec_form}
use Rattle.pb_bytecode.specs.Decoded.{module_contents}
use Rattle.pb_command_texts.specs.Writes.{WritesModule, WritesOfModule}
use Rattle.pb_command_texts.specs.Refusals.{IsUncompiled, IsUncompiledForm}
use Rattle.pb_command_texts.proofs.Refusals.{form_uncompiled}
use Rattle.pb_command_texts.proofs.Texts.{of_bytes}
use Rattle.pb_command_modules.proofs.Deliveries.{less_delivered, nothing_in_want, nothing_written, only_write}
use Rattle.pb_command_faults.proofs.HandedUp.{handed_up, wanting_up}
use Rattle.pb_command_texts.proofs.compile.compile_text.Goals as goal

pub returns-in_err-typed : goal.returns-in_err-typed
returns-in_err-typed g c = (
  (nothing_written g.S.Sink _ (WritesOfModule c.args.text.counting WritesModule c.args.text.input.bytes.now) c.args.writer.now
      c.in_err-typed.field-0.0 c.from_residual.result c.from_residual.ensures.1),
  (let P = IsUncompiled c.args.text.counting c.args.text.input.bytes.now in
      handed_up P P (λ f h. h) c.in_err-typed.field-0.0 c.from_residual.result c.in_err-typed.ensures.refused c.from_residual.ensures.1),
)

pub returns-in_err-module : goal.returns-in_err-module
returns-in_err-module g c = (
  (nothing_written g.S.Sink _ (WritesOfModule c.args.text.counting WritesModule c.args.text.input.bytes.now) c.args.writer.now
      c.in_err-module.field-0.0 c.from_residual-in_err-module.result c.from_residual-in_err-module.ensures.1),
  (let typed = c.in_ok-typed.typed in
      let text = spec_form typed.spec in
      let counting = c.args.text.counting in
      let bytes = c.args.text.input.bytes.now in
      handed_up (IsUncompiledForm text) (IsUncompiled counting bytes) (form_uncompiled counting bytes text c.in_ok-typed.ensures.read c.in_ok-typed.ensures.typed)
      c.in_err-module.field-0.0 c.from_residual-in_err-module.result c.in_err-module.ensures.refused c.from_residual-in_err-module.ensures.1),
)

pub returns-in_err-spelled : goal.returns-in_err-spelled
returns-in_err-spelled g c = (
  (nothing_in_want g.S.Sink (WritesOfModule c.args.text.counting WritesModule c.args.text.input.bytes.now) c.args.writer.now
      c.from_residual-in_err-spelled.result c.from_residual-in_err-spelled.ensures.1),
  (wanting_up (IsUncompiled c.args.text.counting c.args.text.input.bytes.now) c.from_residual-in_err-spelled.result c.from_residual-in_err-spelled.ensures.1),
)

pub returns : goal.returns
returns g c = (
  (less_delivered g.S.Sink (λ (t : List ℕ). t ≡ c.as_slice.result.now) (WritesOfModule c.args.text.counting WritesModule c.args.text.input.bytes.now)
      (λ text is. (
        module_contents c.in_ok-module.module,
        of_bytes c.args.text.counting c.args.text.input.bytes.now (spec_form c.in_ok-typed.typed.spec)
            (module_contents c.in_ok-module.module) c.in_ok-typed.ensures.read c.in_ok-typed.ensures.typed c.in_ok-module.ensures.«module»,
        is ∙ (c.as_slice.ensures.value ∙ c.in_ok-spelled.ensures),
      )) c.args.writer.now c.deliver.new.writer c.deliver.result c.deliver.ensures.text),
  (only_write (IsUncompiled c.args.text.counting c.args.text.input.bytes.now) c.deliver.result c.deliver.ensures.failed),
)
