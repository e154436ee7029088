-- What is not compiled is not verified.
use Rattle.std.proofs.Common.{rules}
use Rattle.pb_base.proofs.Faults.{if_fault}
use Rattle.pb_text_tree.specs.Form.{spec_form}
use Rattle.pb_command_faults.proofs.HandedUp.{handed_on}
use Rattle.pb_command_texts.specs.Refusals.{IsUncompiledForm}
use Rattle.pb_command_texts.proofs.compile.verified.Goals as goal

pub returns-in_err-module : goal.returns-in_err-module
returns-in_err-module c = record {
  «module» = search rules;
  refused =
      let P = IsUncompiledForm (spec_form c.args.typed.now.spec) in
      handed_on P P (λ f h. h) c.in_err-module.field-0.0 c.from_residual.result c.in_err-module.ensures.refused c.from_residual.ensures.1;
}

pub only_memory-requires : goal.only_memory-requires
only_memory-requires c = if_fault c.in-Err.error (λ _ refused. refused c.in_ok-module.ensures.«module».accepted) c.in-Err.ensures.refused
