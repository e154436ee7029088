use Rattle.std.proofs.Common.{◌≡◌, ◌≤◌, ℕ, Some, length}
use Rattle.std.specs.List.{slice_get}
use Rattle.pb_model_tree.specs.Form.{model_form}
use Rattle.pb_command_models.specs.declared.step_finding.StepFinding.{StepFinding}
use Rattle.pb_command_models.specs.ReachedSteps.{IsFoundOfStep}
use Rattle.pb_command_models.proofs.reached_steps.steps_on.Given as goal

abbrev pub invariant-loop-step : goal.invariant-loop-step
invariant-loop-step g l = record {
  count : length l.findings.items ≡ l.step;
  within : l.step ≤ length l.solved.typed.model.steps.items;
  found : (place : ℕ) (finding : StepFinding) → slice_get l.findings.items place ≡ Some finding → IsFoundOfStep (model_form l.solved.typed.model) place finding;
}
