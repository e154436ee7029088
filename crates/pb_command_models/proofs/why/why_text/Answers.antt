-- An error on what is asked is an error on the model.
use Rattle.std.proofs.Common.{◌≡◌, ◌∙◌, ℕ, List, Err, string_bytes, ap, sym, subst}
use Rattle.std.specs.Prelude.{option_copied}
use Rattle.pb_model_tree.specs.Form.{model_form}
use Rattle.pb_model_words.specs.Vocabulary.{Vocabulary}
use Rattle.pb_model_properties.specs.Words.{words_of}
use Rattle.pb_command_models.specs.Models.{asked_by}
use Rattle.pb_command_models.specs.Why.{IsUnshown, TellAsked, WritesWhy}
use Rattle.pb_command_modules.proofs.Deliveries.{less_delivered, nothing_written, only_write}
use Rattle.pb_command_models.proofs.Checked.{model_unexplained}
use Rattle.pb_command_models.proofs.Tellings.{missed, no_name, never_missed_model, unshown}
use Rattle.pb_command_faults.proofs.HandedUp.{handed_up, refused_up}
use Rattle.pb_model_properties.specs.Refusals.{IsRefusedModel}
use Rattle.pb_command_faults.specs.Errors.{fault_of_model}
use Rattle.pb_command_models.proofs.why.why_text.Goals as goal

pub returns-in_err-solved-clause-told : goal.returns-in_err-solved-clause-told
returns-in_err-solved-clause-told g c = (
  (nothing_written g.S.Sink _ (WritesWhy c.args.options.lines (option_copied c.args.property) c.args.input.bytes.now) c.args.writer.now
      c.in_err-solved.field-0.0 c.from_residual.result c.from_residual.ensures.1),
  (let name = option_copied c.args.property in
      let bytes = c.args.input.bytes.now in
      refused_up (λ f above. above ≡ fault_of_model f) (IsRefusedModel bytes) (IsUnshown name bytes)
      (λ f above same h. subst (IsUnshown name bytes) (sym same) (unshown name bytes (fault_of_model f) (model_unexplained bytes (asked_by name) f h)))
      c.in_err-solved.field-0.0 c.from_residual.result c.in_err-solved.ensures.refused c.from_residual.ensures.1),
)

pub returns-in_err-lines-clause-told : goal.returns-in_err-lines-clause-told
returns-in_err-lines-clause-told g c = (
  (nothing_written g.S.Sink _ (WritesWhy c.args.options.lines (option_copied c.args.property) c.args.input.bytes.now) c.args.writer.now
      c.in_err-lines.field-0.0 c.from_residual-in_err-lines.result c.from_residual-in_err-lines.ensures.1),
  (let name = option_copied c.args.property in
      handed_up (IsUnshown name c.args.input.bytes.now) (IsUnshown name c.args.input.bytes.now) (λ f h. h)
      c.in_err-lines.field-0.0 c.from_residual-in_err-lines.result c.in_err-lines.ensures.refused c.from_residual-in_err-lines.ensures.1),
)

pub returns-clause-told : goal.returns-clause-told
returns-clause-told g c = (
  (let model = model_form c.in_ok-solved.solved.typed.model in
      let said = c.in_ok-solved.ensures.model.said in
      let told = subst (λ (v : Vocabulary). TellAsked c.args.options.lines (option_copied c.args.property) v said.protocol model (string_bytes c.in_ok-lines.lines))
      c.in_ok-solved.ensures.model.words (c.in_ok-lines.ensures.told said) in
      let tells = λ (t : List ℕ). TellAsked c.args.options.lines (option_copied c.args.property) (words_of said.protocol model said.is_for.made) said.protocol model t in
      less_delivered g.S.Sink (λ (t : List ℕ). t ≡ c.as_bytes.result.now) (WritesWhy c.args.options.lines (option_copied c.args.property) c.args.input.bytes.now)
      (λ text is. (model, said, subst tells (sym (is ∙ c.as_bytes.ensures.value)) told)) c.args.writer.now c.deliver.new.writer c.deliver.result c.deliver.ensures.text),
  (only_write (IsUnshown (option_copied c.args.property) c.args.input.bytes.now) c.deliver.result c.deliver.ensures.failed),
)

pub returns-clause-named : goal.returns-clause-named
returns-clause-named g c is = no_name _ c.deliver.result c.deliver.ensures.failed is

pub returns-in_err-solved-clause-named : goal.returns-in_err-solved-clause-named
returns-in_err-solved-clause-named g c is =
    never_missed_model _ c.args.input.bytes.now c.in_err-solved.field-0.0 c.from_residual.result c.from_residual.ensures.1 c.in_err-solved.ensures.refused is

pub returns-in_err-lines-clause-named : goal.returns-in_err-lines-clause-named
returns-in_err-lines-clause-named g c is =
    missed _ c.in_err-lines.field-0.0 c.from_residual-in_err-lines.result c.from_residual-in_err-lines.ensures.1
    (λ same. c.in_err-lines.ensures.named (ap Err same)) is

pub returns-in_err-solved-clause-faithful : goal.returns-in_err-solved-clause-faithful
returns-in_err-solved-clause-faithful g c = c.told_calls_are_steps.ensures c.args.input.bytes.now

pub returns-in_err-lines-clause-faithful : goal.returns-in_err-lines-clause-faithful
returns-in_err-lines-clause-faithful g c = c.told_calls_are_steps.ensures c.args.input.bytes.now

pub returns-clause-faithful : goal.returns-clause-faithful
returns-clause-faithful g c = c.told_calls_are_steps.ensures c.args.input.bytes.now
