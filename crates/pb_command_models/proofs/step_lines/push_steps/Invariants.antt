use Rattle.std.proofs.Common.{◌≡◌, ◌++◌, drop, string_bytes}
use Rattle.pb_model_properties.specs.Words.{words_in}
use Rattle.pb_command_models.specs.ReachedSteps.{step_lines, step_lines_from}
use Rattle.pb_command_models.proofs.step_lines.push_steps.Given as goal

-- the lines so far, and those of what is left
abbrev pub invariant-loop-step : goal.invariant-loop-step
invariant-loop-step l =
    string_bytes l.lines ++ step_lines_from l.step (words_in l.solved) (drop l.step l.findings) ≡ string_bytes l.initial.lines ++ step_lines (words_in l.solved) l.findings
