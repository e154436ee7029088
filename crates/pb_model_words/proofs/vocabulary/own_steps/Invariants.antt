use Rattle.std.proofs.Common.{◌≡◌, ◌++◌, drop, map}
use Rattle.pb_model_tree.specs.Form.{step_form}
use Rattle.pb_model_words.specs.Vocabulary.{told_step}
use Rattle.pb_model_words.specs.View.{told_step_said}
use Rattle.pb_model_words.proofs.vocabulary.own_steps.Given as goal

-- the steps so far, and those that are left
abbrev pub invariant-loop-step : goal.invariant-loop-step
invariant-loop-step l = map told_step_said l.told.items ++ map told_step (map step_form (drop l.step-index l.steps)) ≡ map told_step (map step_form l.steps)
