use Rattle.std.proofs.Common.{◌≡◌, ℕ, ◌<◌, Some}
use Rattle.std.specs.List.{slice_get}
use Rattle.pb_model_tree.specs.Form.{PropertyForm, model_form}
use Rattle.pb_model_properties.specs.Refusals.{PassesAsText}
use Rattle.pb_model_properties.proofs.whole.check_texts.Given as goal

-- the texts before this place pass
abbrev pub invariant-loop-place : goal.invariant-loop-place
invariant-loop-place l =
    (k : ℕ) (p : PropertyForm) → k < l.place → slice_get (model_form l.solved.typed.model).properties k ≡ Some p → PassesAsText l.solved p
