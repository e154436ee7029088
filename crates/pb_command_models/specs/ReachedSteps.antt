-- What is found of the steps of a model: whether they can be taken in a reached state.
use Rattle.std.specs.Prelude.{◌≡◌, ℕ, ◌+◌, Bool, true, false, List, [], ◌∷◌, ◌++◌, Some}
use Rattle.std.specs.Prelude.{if◌then◌else◌, length, flat_map, IfOk, Result, Vec}
use Rattle.std.specs.declared.alloc.Global.{Global}
use Rattle.std.specs.List.{list_any, slice_get}
use Rattle.pb_base.specs.OrMemory.{IfRefused}
use Rattle.pb_base.specs.declared.or_memory.OrMemory.{OrMemory}
use Rattle.pb_model_tree.specs.Form.{ModelForm, StepForm}
use Rattle.pb_model_words.specs.Vocabulary.{Vocabulary}
use Rattle.pb_model_properties.specs.Reached.{name_of_step, reached_property}
use Rattle.pb_model_properties.specs.Refusals.{told_places}
use Rattle.pb_model_properties.specs.Said.{tree_satisfies}
use Rattle.pb_model_properties.specs.Verdicts.{refused_line, unreached_line}
use Rattle.pb_model_properties.specs.Words.{impossible_in, words_in}
use Rattle.pb_model_properties.specs.declared.solved.SolvedModel.{SolvedModel}
use Rattle.pb_command_faults.specs.Lines.{property_rule}
use Rattle.pb_command_faults.specs.declared.solve_fault.SolveFault.{SolveFault}
use Rattle.pb_command_faults.specs.declared.solve_fault.SolveFault.TheVariants as solve_fault
use Rattle.pb_command_models.specs.declared.finding.PropertyFinding.{PropertyFinding}
use Rattle.pb_command_line.specs.declared.status.Status.{Status}
use Rattle.pb_command_line.specs.declared.status.Status.TheVariants as status
use Rattle.pb_command_models.specs.declared.step_finding.StepFinding.{StepFinding}
use Rattle.pb_command_models.specs.declared.step_finding.StepFinding.TheVariants.{Reached, Never, Refused}
use Rattle.pb_command_models.specs.declared.property_module.PropertyModule.{PropertyModule}
use Rattle.pb_command_models.specs.declared.property_text.AskedText.{AskedText}
use Rattle.pb_command_models.specs.declared.property_text.PropertyText.{PropertyText}
use Rattle.pb_command_models.specs.Models.{HasIllTypedStep, IsTooLargeProperty, solved_form}
use Rattle.pb_command_models.specs.Models.{status_of_findings}
use Rattle.pb_command_models.specs.Outcomes.{IsPropertyModule, IsPropertyText}

-- ---- what is found of a step

-- some run of the model within the ranges leads to a state in which the step can be taken
abbrev pub can_be_taken : ModelForm → StepForm → Bool
can_be_taken model a = tree_satisfies model (reached_property model a).formula

-- whether it can; or that the text that asks so is too large
abbrev pub IsStepFinding : ModelForm → StepForm → StepFinding → Type 0
IsStepFinding model a Reached = can_be_taken model a ≡ true
IsStepFinding model a Never = can_be_taken model a ≡ false
IsStepFinding model a (Refused excess) =
    IsTooLargeProperty model (reached_property model a) excess

-- by whether it can be taken
abbrev pub by_truth : Bool → StepFinding
by_truth true = Reached
by_truth false = Never

-- what is found of the step at a place
abbrev pub IsFoundOfStep : ModelForm → ℕ → StepFinding → Type 0
IsFoundOfStep model place finding =
    (a : StepForm) → slice_get model.steps place ≡ Some a → IsStepFinding model a finding

-- what is found of each step of the model, in order
pub record AreStepsFound (model : ModelForm) (findings : List StepFinding) : Type 0 where
  pub count : length findings ≡ length model.steps
  pub found :
      (place : ℕ) (finding : StepFinding) → slice_get findings place ≡ Some finding →
      IsFoundOfStep model place finding

-- so it is where counts are asked for; else nothing is
abbrev pub AreStepsFoundWhere : Bool → ModelForm → List StepFinding → Type 0
AreStepsFoundWhere true model findings = AreStepsFound model findings
AreStepsFoundWhere false model findings = findings ≡ []

-- ---- what is told of it

-- of a step that can be taken nothing is told
abbrev pub step_line : List ℕ → StepFinding → List ℕ
step_line name Reached = []
step_line name Never = unreached_line name
step_line name (Refused excess) = refused_line name (property_rule excess)

-- the lines of what is found of steps, where the first of them stands at a place
abbrev pub step_lines_from : ℕ → Vocabulary → List StepFinding → List ℕ
step_lines_from place words [] = []
step_lines_from place words (f ∷ fs) =
    step_line (name_of_step words place) f ++ step_lines_from (place + 1) words fs

abbrev pub step_lines : Vocabulary → List StepFinding → List ℕ
step_lines = step_lines_from 0

-- the lines of the protocol's steps of these names, which come to none in the model, where counts
-- are asked for
abbrev pub impossible_lines : Bool → List (List ℕ) → List ℕ
impossible_lines true names = flat_map unreached_line names
impossible_lines false names = []

-- the text that asks for the step is refused
abbrev pub refuses_step : StepFinding → Bool
refuses_step Reached = false
refuses_step Never = false
refuses_step (Refused excess) = true

-- how the run ends: with something refused, else as the verdicts say
abbrev pub status_of_checked : Bool → List PropertyFinding → List StepFinding → Status
status_of_checked tells findings steps =
    if list_any refuses_step steps then status.Refused else status_of_findings tells findings

-- the lines of steps: of what is found of the model's, and of the protocol's that come to none
abbrev pub all_step_lines : Bool → SolvedModel → List StepFinding → List ℕ
all_step_lines counts solved findings =
    step_lines (words_in solved) findings ++ impossible_lines counts (impossible_in solved.names)

-- ---- texts

-- the text that asks whether the step at a place can be taken
abbrev pub IsStepText : ModelForm → ℕ → PropertyText → Type 0
IsStepText model place text =
    (a : StepForm) → slice_get model.steps place ≡ Some a →
    IsPropertyText model (reached_property model a) text

-- its module
abbrev pub IsStepModule : ModelForm → ℕ → PropertyModule → Type 0
IsStepModule model place compiled =
    (a : StepForm) → slice_get model.steps place ≡ Some a →
    IsPropertyModule model (reached_property model a) compiled

-- what is found of whatever step's text has this module
abbrev pub IsFoundByModule : PropertyModule → StepFinding → Type 0
IsFoundByModule compiled finding =
    (model : ModelForm) (step : ℕ) → IsStepModule model step compiled
    → IsFoundOfStep model step finding

-- the text of a step isn't well typed
abbrev pub IsUntypedStep : SolvedModel → SolveFault → Type 0
IsUntypedStep solved (solve_fault.Typing fault) =
    HasIllTypedStep (told_places solved.names) (solved_form solved) fault
IsUntypedStep solved fault = ⊥

-- the text that asks so is this, or it isn't well typed
pub record AsksStep (solved : SolvedModel) (place : ℕ)
    (result : Result AskedText (OrMemory SolveFault)) : Type 0 where
  pub text : IfOk result (λ asked. IsStepText (solved_form solved) place asked.text)
  pub refused : IfRefused result (IsUntypedStep solved)

-- What is found of each step, where counts are asked for, or a text that asks so isn't well typed.
-- Without counts nothing is refused.
pub record FindsSteps (counts : Bool) (solved : SolvedModel)
    (result : Result (Vec StepFinding Global) (OrMemory SolveFault)) : Type 0 where
  pub found : IfOk result
      (λ findings. AreStepsFoundWhere counts (solved_form solved) findings.items)
  pub refused : IfRefused result (λ fault. (counts ≡ true) × IsUntypedStep solved fault)
