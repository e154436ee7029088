-- The module of the text is explained, or the text isn't.
use Rattle.std.proofs.Common.{refl, rules}
use Rattle.pb_text_tree.specs.Form.{spec_form}
use Rattle.pb_command_faults.proofs.HandedUp.{handed_on}
use Rattle.pb_command_modules.specs.Refusals.{IsRefusedModule}
use Rattle.pb_command_texts.specs.Refusals.{IsUncompiledForm, IsUnexplainedForm}
use Rattle.pb_command_texts.proofs.Refusals.{form_unexplained, module_unexplained}
use Rattle.pb_command_texts.proofs.explained.explained_typed.Goals as goal

pub returns-in_err-verified : goal.returns-in_err-verified
returns-in_err-verified g c = record {
  typed = search rules;
  explained = search rules;
  refused =
      let text = spec_form c.args.typed.spec in
      handed_on (IsUncompiledForm text) (IsUnexplainedForm c.args.counting text) (form_unexplained c.args.counting text)
      c.in_err-verified.field-0.0 c.from_residual.result c.in_err-verified.ensures.refused c.from_residual.ensures.1;
}

pub returns-in_err-explanation : goal.returns-in_err-explanation
returns-in_err-explanation g c = record {
  typed = search rules;
  explained = search rules;
  refused =
      let text = spec_form c.args.typed.spec in
      let m = c.in_ok-verified.verified in
      handed_on (IsRefusedModule c.args.counting m) (IsUnexplainedForm c.args.counting text) (module_unexplained c.args.counting text m c.in_ok-verified.ensures.«module»)
      c.in_err-explanation.field-0.0 c.from_residual-in_err-explanation.result c.in_err-explanation.ensures.refused c.from_residual-in_err-explanation.ensures.1;
}

pub returns : goal.returns
returns g c = record {
  typed = refl;
  explained =
      record {
        of_text = c.in_ok-verified.ensures.«module»;
        explains = c.in_ok-explanation.ensures.explanation;
      };
  refused = tt;
}
