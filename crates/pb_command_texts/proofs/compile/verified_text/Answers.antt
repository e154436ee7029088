use Rattle.std.proofs.Common.{rules}
use Rattle.pb_text_tree.specs.Form.{spec_form}
use Rattle.pb_command_texts.proofs.Refusals.{refused_texts, uncompiled}
use Rattle.pb_command_faults.proofs.HandedUp.{handed_on}
use Rattle.pb_command_texts.specs.Refusals.{IsRefused, IsUncompiled}
use Rattle.pb_command_texts.proofs.compile.verified_text.Goals as goal

pub returns : goal.returns
returns c = record {
  «module» = search rules;
  refused =
      refused_texts c.args.text.counting c.args.text.input.bytes.now (spec_form c.in_ok-typed.typed.spec) c.verified_laid_out.result c.in_ok-typed.ensures.read
      c.in_ok-typed.ensures.typed c.verified_laid_out.ensures.refused;
}

pub returns-in_err-typed : goal.returns-in_err-typed
returns-in_err-typed c = record {
  «module» = search rules;
  refused =
      let counting = c.args.text.counting in
      let bytes = c.args.text.input.bytes.now in
      handed_on (IsUncompiled counting bytes) (IsRefused counting bytes) (uncompiled counting bytes) c.in_err-typed.field-0.0
      c.from_residual.result c.in_err-typed.ensures.refused c.from_residual.ensures.1;
}
