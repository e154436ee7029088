-- Which text each command writes for a model.
use Rattle.std.specs.Prelude.{◌≡◌, ℕ, Bool, List, ◌++◌, string_bytes}
use Rattle.std.specs.Prelude.{IfOk, Option, Result}
use Rattle.pb_base.specs.OrMemory.{IfRefused}
use Rattle.pb_base.specs.declared.or_memory.OrMemory.{OrMemory}
use Rattle.pb_sorts.specs.declared.sink.Sink.{Ghosts}
use Rattle.pb_model_tree.specs.Form.{ModelForm}
use Rattle.pb_model_properties.specs.Printed.{IsTranslation}
use Rattle.pb_model_properties.specs.Said.{IsModelOf}
use Rattle.pb_model_properties.specs.Words.{impossible_step_names, words_of}
use Rattle.pb_command_line.specs.declared.options.Checking.{Checking}
use Rattle.pb_command_faults.specs.declared.solve_error.SolveError.{SolveError}
use Rattle.pb_command_faults.specs.declared.solve_fault.SolveFault.{SolveFault}
use Rattle.pb_command_modules.specs.Delivery.{DeliversOrRefuses}
use Rattle.pb_command_models.specs.declared.check.CheckReport.{CheckReport}
use Rattle.pb_command_models.specs.declared.finding.PropertyFinding.{PropertyFinding}
use Rattle.pb_command_line.specs.declared.status.Status.{Status}
use Rattle.pb_command_models.specs.declared.step_finding.StepFinding.{StepFinding}
use Rattle.pb_command_models.specs.Models.{ArePropertiesFound, IsUnchecked, IsUntranslated, asked_names}
use Rattle.pb_command_models.specs.Models.{found_lines}
use Rattle.pb_command_models.specs.Symmetries.{AreSymmetryLines}
use Rattle.pb_model_properties.specs.Asked.{asked_places}
use Rattle.pb_command_models.specs.ReachedSteps.{AreStepsFoundWhere, impossible_lines, status_of_checked}
use Rattle.pb_command_models.specs.ReachedSteps.{step_lines}

-- the lines that tell of steps of the model that is solved in the place of the protocol that the
-- bytes say, in its words; and of the protocol's steps that come to none in it, where counts are
-- asked for
abbrev pub lines_of_steps : {bytes : List ℕ} {model : ModelForm} → Bool → IsModelOf bytes model →
    List StepFinding → List ℕ
lines_of_steps {bytes} {model} counts said steps =
    step_lines (words_of said.protocol model said.is_for.made) steps
    ++ impossible_lines counts (impossible_step_names said.protocol)

-- the exit status and the lines that tell what is found of each property that is asked for, of the
-- protocol that the bytes say, and of each step, where counts are asked for; where symmetry is, a
-- line after each verdict has the elements that may be permuted
abbrev pub WritesVerdicts : Checking → List ℕ → Status → List ℕ → Type 0
WritesVerdicts options bytes status written =
    (model : ModelForm) × (findings : List PropertyFinding) × (steps : List StepFinding)
    × (notes : List (List ℕ)) × (said : IsModelOf bytes model)
    × ArePropertiesFound options.counts said.protocol model (asked_names options) findings
    × AreStepsFoundWhere options.counts model steps
    × AreSymmetryLines options.symmetry said.protocol
    (asked_places (asked_names options) model.properties) notes
    × (status ≡ status_of_checked options.status findings steps)
    × (written ≡ found_lines options.counts model notes findings
    ++ lines_of_steps options.counts said steps)

-- of some status, which is that of the result where there is one, this is written
abbrev pub WithStatus :
    {E : Type 0} → Result Status E → (Status → List ℕ → Type 0) → List ℕ → Type 0
WithStatus result IsWritten written =
    (status : Status) × IfOk result (λ s. s ≡ status) × IsWritten status written

-- the text of the property of the name goes out, or the model is refused
abbrev pub DeliversTranslation : {S T : Type 0} → Option (List ℕ) → List ℕ → Result T SolveError →
    Ghosts S → (old new : S) → Type 0
DeliversTranslation name bytes result sink old new =
    DeliversOrRefuses (IsTranslation name bytes) (IsUntranslated name bytes) result sink old new

-- the exit status and the lines are made, or the model is refused
pub record ReportsVerdicts (options : Checking) (bytes : List ℕ)
    (result : Result CheckReport (OrMemory SolveFault)) : Type 0 where
  pub report : IfOk result
      (λ report. WritesVerdicts options bytes report.status (string_bytes report.lines))
  pub refused : IfRefused result (IsUnchecked options bytes)

-- the lines go out, with the status that is answered, or the model is refused
abbrev pub DeliversVerdicts : {S : Type 0} → Checking → List ℕ → Result Status SolveError →
    Ghosts S → (old new : S) → Type 0
DeliversVerdicts options bytes result sink old new =
    DeliversOrRefuses (WithStatus result (WritesVerdicts options bytes)) (IsUnchecked options bytes)
    result sink old new
