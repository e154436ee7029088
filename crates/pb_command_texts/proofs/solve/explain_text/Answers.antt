-- The evidence of what is explained is written, or the bytes are refused.
use Rattle.std.proofs.Common.{◌≡◌, ℕ, List, sym, subst}
use Rattle.pb_sorts.specs.declared.counting.Counting.{Counting}
use Rattle.pb_text_tree.specs.Form.{spec_form}
use Rattle.pb_typing.specs.declared.typed.Typed.{Typed}
use Rattle.pb_command_texts.specs.Answers.{IsReadText, IsWellTypedBy}
use Rattle.pb_command_texts.specs.Writes.{WritesTextEvidence}
use Rattle.pb_command_texts.specs.Refusals.{IsRefused, IsUncompiled, IsUnexplainedForm}
use Rattle.pb_command_modules.proofs.Deliveries.{nothing_written}
use Rattle.pb_command_faults.proofs.HandedUp.{handed_up}
use Rattle.pb_command_texts.proofs.Refusals.{uncompiled, unexplained}
use Rattle.pb_command_texts.proofs.solve.explain_text.Goals as goal

pub returns-in_err-typed : goal.returns-in_err-typed
returns-in_err-typed g c = (
  (nothing_written g.S.Sink _ (WritesTextEvidence c.args.text.counting c.args.options.places c.args.text.input.bytes.now) c.args.writer.now
      c.in_err-typed.field-0.0 c.from_residual.result c.from_residual.ensures.1),
  (handed_up (IsUncompiled c.args.text.counting c.args.text.input.bytes.now) (IsRefused c.args.text.counting c.args.text.input.bytes.now) (uncompiled c.args.text.counting c.args.text.input.bytes.now)
      c.in_err-typed.field-0.0 c.from_residual.result c.in_err-typed.ensures.refused c.from_residual.ensures.1),
)

pub returns-in_err-explained : goal.returns-in_err-explained
returns-in_err-explained g c = (
  (nothing_written g.S.Sink _ (WritesTextEvidence c.args.text.counting c.args.options.places c.args.text.input.bytes.now) c.args.writer.now
      c.in_err-explained.field-0.0 c.from_residual-in_err-explained.result c.from_residual-in_err-explained.ensures.1),
  (let counting = c.args.text.counting in
      let bytes = c.args.text.input.bytes.now in
      let typed = c.in_ok-typed.typed in
      let text = spec_form typed.spec in
      handed_up (IsUnexplainedForm counting text) (IsRefused counting bytes) (unexplained counting bytes text c.in_ok-typed.ensures.read c.in_ok-typed.ensures.typed)
      c.in_err-explained.field-0.0 c.from_residual-in_err-explained.result c.in_err-explained.ensures.refused c.from_residual-in_err-explained.ensures.1),
)

-- what was read of the text that is explained
kept_reading : (bytes : List ℕ) (new old : Typed) → new ≡ old → IsReadText bytes (spec_form old.spec) → IsReadText bytes (spec_form new.spec)
kept_reading bytes new old same read = subst (λ (t : Typed). IsReadText bytes (spec_form t.spec)) (sym same) read

-- and how it is typed
kept_typing : (counting : Counting) (new old : Typed) → new ≡ old → IsWellTypedBy counting (spec_form old.spec) → IsWellTypedBy counting (spec_form new.spec)
kept_typing counting new old same typed = subst (λ (t : Typed). IsWellTypedBy counting (spec_form t.spec)) (sym same) typed

pub returns : goal.returns
returns g c =
    let same = c.in_ok-explained.ensures.typed in
    c.write_explained.ensures c.args.text.counting c.args.text.input.bytes.now (kept_reading _ _ _ same c.in_ok-typed.ensures.read)
    (kept_typing _ _ _ same c.in_ok-typed.ensures.typed)
