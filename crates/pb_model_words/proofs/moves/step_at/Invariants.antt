use Rattle.std.proofs.Common.{◌≡◌, map, drop}
use Rattle.std.specs.List.{find}
use Rattle.pb_model_words.specs.View.{told_step_said}
use Rattle.pb_model_words.specs.Words.{stands_at}
use Rattle.pb_model_words.proofs.moves.step_at.Given as goal

abbrev pub invariant-loop-step : goal.invariant-loop-step
invariant-loop-step l =
    find (stands_at l.place) (map told_step_said (drop l.step-index l.steps)) ≡ find (stands_at l.place) (map told_step_said l.steps)
