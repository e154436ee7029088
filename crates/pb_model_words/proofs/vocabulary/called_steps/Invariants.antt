use Rattle.std.proofs.Common.{◌≡◌, ◌++◌, drop, map}
use Rattle.std.specs.Prelude.{string_bytes}
use Rattle.pb_model_tree.specs.Form.{step_form}
use Rattle.pb_model_words.specs.Vocabulary as words
use Rattle.pb_model_words.specs.View.{told_step_said}
use Rattle.pb_model_words.proofs.vocabulary.called_steps.Given as goal

-- the steps so far, and those that are left
abbrev pub invariant-loop-k : goal.invariant-loop-k
invariant-loop-k l =
    map told_step_said l.told.items ++ words.called_steps (map string_bytes (drop l.k l.names)) (map step_form (drop l.k l.steps))
    ≡ words.called_steps (map string_bytes l.names) (map step_form l.steps)
