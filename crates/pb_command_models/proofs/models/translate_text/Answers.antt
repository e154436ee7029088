use Rattle.std.proofs.Common.{◌≡◌, ◌∙◌, ℕ, List, Result, Ok, Err, IsErrAnd, refl, sym, ap, subst}
use Rattle.std.specs.Prelude.{option_copied}
use Rattle.pb_command_faults.specs.declared.solve_error.SolveError.{SolveError}
use Rattle.pb_command_faults.specs.declared.solve_error.SolveError.TheVariants.{Refused, Write}
use Rattle.pb_command_faults.specs.declared.solve_fault.SolveFault.TheVariants.{NoProperty}
use Rattle.pb_command_models.specs.Models.{IsUntranslated}
use Rattle.pb_model_properties.specs.Printed.{IsTranslation}
use Rattle.pb_command_modules.proofs.Deliveries.{less_delivered, nothing_written, only_write}
use Rattle.pb_model_faults.specs.declared.ModelFault.{ModelFault}
use Rattle.pb_model_properties.specs.Refusals as untranslated
use Rattle.pb_model_faults.specs.declared.ModelFault.TheVariants as model_fault
use Rattle.pb_base.specs.declared.or_memory.OrMemory.{OrMemory}
use Rattle.pb_base.specs.declared.or_memory.OrMemory.TheVariants as or_memory
use Rattle.pb_command_faults.specs.declared.solve_error.SolveError.TheVariants as solve_error
use Rattle.pb_command_faults.specs.Errors.{fault_of_model, joins_into}
use Rattle.pb_command_faults.proofs.HandedUp.{refused_up}
use Rattle.pb_command_models.proofs.PropertyVerdicts.{model_untranslated}
use Rattle.pb_command_models.proofs.Tellings.{no_name}
use Rattle.pb_command_models.proofs.models.translate_text.Goals as goal

pub returns-in_err-text-clause-text : goal.returns-in_err-text-clause-text
returns-in_err-text-clause-text g c = (
  (nothing_written g.S.Sink _ (IsTranslation (option_copied c.args.property) c.args.input.bytes.now) c.args.writer.now
      c.in_err-text.field-0.0 c.from_residual.result c.from_residual.ensures.1),
  (let name = option_copied c.args.property in
      let bytes = c.args.input.bytes.now in
      refused_up (λ f above. above ≡ fault_of_model f) (untranslated.LacksTranslation name bytes) (IsUntranslated name bytes)
      (λ f above same h. subst (IsUntranslated name bytes) (sym same) (model_untranslated name bytes f h))
      c.in_err-text.field-0.0 c.from_residual.result c.in_err-text.ensures.refused c.from_residual.ensures.1),
)

pub returns-clause-text : goal.returns-clause-text
returns-clause-text g c = (
  (less_delivered g.S.Sink (λ (t : List ℕ). t ≡ c.as_slice.result.now) (IsTranslation (option_copied c.args.property) c.args.input.bytes.now)
      (λ text is. subst (IsTranslation (option_copied c.args.property) c.args.input.bytes.now) (sym (is ∙ c.as_slice.ensures.value)) c.in_ok-text.ensures.text)
      c.args.writer.now c.deliver.new.writer c.deliver.result c.deliver.ensures.text),
  (only_write (IsUntranslated (option_copied c.args.property) c.args.input.bytes.now) c.deliver.result c.deliver.ensures.failed),
)

pub returns-clause-named : goal.returns-clause-named
returns-clause-named g c is = no_name _ c.deliver.result c.deliver.ensures.failed is

-- a property that isn't there was told as that
by_name : {T : Type 0} (P : Type 0) (e : OrMemory ModelFault) (r : Result T SolveError) → IsErrAnd r (joins_into (λ f above. above ≡ fault_of_model f) e)
    → (e ≡ or_memory.Refused model_fault.NoProperty → P) → r ≡ Err (Refused NoProperty) → P
by_name P e (Ok x) made h is = absurd (cc is)
by_name P (or_memory.Refused model_fault.NoProperty) (Err x) made h is = h refl
by_name P (or_memory.Refused (model_fault.Text f)) (Err (Refused above)) made h is = absurd (cc (made, is))
by_name P (or_memory.Refused (model_fault.Typing f)) (Err (Refused above)) made h is = absurd (cc (made, is))
by_name P (or_memory.Refused (model_fault.Text f)) (Err solve_error.Memory) made h is = absurd made
by_name P (or_memory.Refused (model_fault.Typing f)) (Err solve_error.Memory) made h is = absurd made
by_name P (or_memory.Refused (model_fault.Text f)) (Err (Write failed)) made h is = absurd made
by_name P (or_memory.Refused (model_fault.Typing f)) (Err (Write failed)) made h is = absurd made
by_name P or_memory.Memory (Err (Refused above)) made h is = absurd made
by_name P or_memory.Memory (Err solve_error.Memory) made h is = absurd (cc is)
by_name P or_memory.Memory (Err (Write failed)) made h is = absurd made

pub returns-in_err-text-clause-named : goal.returns-in_err-text-clause-named
returns-in_err-text-clause-named g c is =
    by_name _ c.in_err-text.field-0.0 c.from_residual.result c.from_residual.ensures.1 (λ same. c.in_err-text.ensures.named (ap Err same)) is
