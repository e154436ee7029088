-- The line of one more step.
use Rattle.std.proofs.Common.{◌∙◌, ◌++◌, List, ℕ, get_or, refl, ap, string_bytes}
use Rattle.pb_model_properties.specs.Words.{words_in}
use Rattle.pb_command_models.specs.declared.step_finding.StepFinding.TheVariants.{Reached}
use Rattle.pb_command_models.specs.ReachedSteps.{step_line, step_lines}
use Rattle.pb_command_models.proofs.StepFindings.{step_lines_next}
use Rattle.pb_command_models.proofs.step_lines.push_steps.Goals as goal

pub loop-step-preserved : goal.loop-step-preserved
loop-step-preserved c =
    let words = words_in c.args.solved.now in
    let all = c.args.findings.now in
    let k = c.loop-step.step in
    let f = get_or all k Reached in
    step_lines_next words all k f Reached (string_bytes c.args.lines.now ++ step_lines words all) (string_bytes c.loop-step.lines) (string_bytes c.push_step.new.lines) c.loop-step-test.true refl
    (c.in_ok-push_step.ensures ∙ ap (λ (n : List ℕ). string_bytes c.loop-step.lines ++ step_line n f) c.name_of_step.ensures) c.loop-step.invariant
