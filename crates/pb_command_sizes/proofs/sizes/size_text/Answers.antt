use Rattle.std.proofs.Common.{◌≡◌, ◌∙◌, ℕ, List, Option, Result, Ok, Err, IsErrAnd, refl, sym, ap, subst}
use Rattle.std.specs.Prelude.{IfErr, option_copied}
use Rattle.pb_base.specs.declared.or_memory.OrMemory.{OrMemory}
use Rattle.pb_base.specs.declared.or_memory.OrMemory.TheVariants as or_memory
use Rattle.pb_model_faults.specs.declared.ModelFault.{ModelFault}
use Rattle.pb_model_faults.specs.declared.ModelFault.TheVariants as model_fault
use Rattle.pb_model_sizes.specs.Refusals.{AreSizesOf, IsUnsized}
use Rattle.pb_command_faults.specs.declared.solve_error.SolveError.{SolveError}
use Rattle.pb_command_faults.specs.declared.solve_error.SolveError.TheVariants as solve_error
use Rattle.pb_command_faults.specs.declared.solve_error.SolveError.TheVariants.{Refused, Write}
use Rattle.pb_command_faults.specs.declared.solve_fault.SolveFault.TheVariants.{NoProperty}
use Rattle.pb_command_faults.specs.Errors.{fault_of_model, joins_into}
use Rattle.pb_command_faults.proofs.HandedUp.{refused_up}
use Rattle.pb_command_modules.proofs.Deliveries.{less_delivered, nothing_written, only_write}
use Rattle.pb_command_sizes.specs.Writes.{IsUnsizedInput}
use Rattle.pb_command_sizes.proofs.sizes.size_text.Goals as goal

-- what is wrong with the model is wrong with the input
unsized : (name : Option (List ℕ)) (bytes : List ℕ) (f : ModelFault) → IsUnsized name bytes f → IsUnsizedInput name bytes (fault_of_model f)
unsized name bytes (model_fault.Text fault) h = h
unsized name bytes (model_fault.Typing fault) h = h
unsized name bytes model_fault.NoProperty h = h

pub returns-in_err-lines-clause-sizes : goal.returns-in_err-lines-clause-sizes
returns-in_err-lines-clause-sizes g c = (
  (nothing_written g.S.Sink _ (AreSizesOf (option_copied c.args.property) c.args.bytes.now) c.args.writer.now
      c.in_err-lines.field-0.0 c.from_residual.result c.from_residual.ensures.1),
  (let name = option_copied c.args.property in
      let bytes = c.args.bytes.now in
      refused_up (λ f above. above ≡ fault_of_model f) (IsUnsized name bytes) (IsUnsizedInput name bytes)
      (λ f above same h. subst (IsUnsizedInput name bytes) (sym same) (unsized name bytes f h))
      c.in_err-lines.field-0.0 c.from_residual.result c.in_err-lines.ensures.refused c.from_residual.ensures.1),
)

pub returns-clause-sizes : goal.returns-clause-sizes
returns-clause-sizes g c = (
  (less_delivered g.S.Sink (λ (t : List ℕ). t ≡ c.as_bytes.result.now) (AreSizesOf (option_copied c.args.property) c.args.bytes.now)
      (λ text is. subst (AreSizesOf (option_copied c.args.property) c.args.bytes.now) (sym (is ∙ c.as_bytes.ensures.value)) c.in_ok-lines.ensures.lines)
      c.args.writer.now c.deliver.new.writer c.deliver.result c.deliver.ensures.text),
  (only_write (IsUnsizedInput (option_copied c.args.property) c.args.bytes.now) c.deliver.result c.deliver.ensures.failed),
)

no_name : {T : Type 0} (P : Type 0) (r : Result T SolveError) → IfErr r (λ e. e ≡ Write (record {})) → r ≡ Err (Refused NoProperty) → P
no_name P (Ok x) h is = absurd (cc is)
no_name P (Err e) h is = absurd (cc (h, is))

pub returns-clause-named : goal.returns-clause-named
returns-clause-named g c is = no_name _ c.deliver.result c.deliver.ensures.failed is

-- a property that isn't there was told as that
by_name : {T : Type 0} (P : Type 0) (e : OrMemory ModelFault) (r : Result T SolveError) → IsErrAnd r (joins_into (λ f above. above ≡ fault_of_model f) e)
    → (e ≡ or_memory.Refused model_fault.NoProperty → P) → r ≡ Err (Refused NoProperty) → P
by_name P e (Ok x) made h is = absurd (cc is)
by_name P (or_memory.Refused model_fault.NoProperty) (Err x) made h is = h refl
by_name P (or_memory.Refused (model_fault.Text f)) (Err (Refused above)) made h is = absurd (cc (made, is))
by_name P (or_memory.Refused (model_fault.Typing f)) (Err (Refused above)) made h is = absurd (cc (made, is))
by_name P (or_memory.Refused (model_fault.Text f)) (Err solve_error.Memory) made h is = absurd made
by_name P (or_memory.Refused (model_fault.Typing f)) (Err solve_error.Memory) made h is = absurd made
by_name P (or_memory.Refused (model_fault.Text f)) (Err (Write failed)) made h is = absurd made
by_name P (or_memory.Refused (model_fault.Typing f)) (Err (Write failed)) made h is = absurd made
by_name P or_memory.Memory (Err (Refused above)) made h is = absurd made
by_name P or_memory.Memory (Err solve_error.Memory) made h is = absurd (cc is)
by_name P or_memory.Memory (Err (Write failed)) made h is = absurd made

pub returns-in_err-lines-clause-named : goal.returns-in_err-lines-clause-named
returns-in_err-lines-clause-named g c is =
    by_name _ c.in_err-lines.field-0.0 c.from_residual.result c.from_residual.ensures.1 (λ same. c.in_err-lines.ensures.named (ap Err same)) is
