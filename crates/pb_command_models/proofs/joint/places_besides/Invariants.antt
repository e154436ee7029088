use Rattle.std.proofs.Common.{ℕ, ◌<◌}
use Rattle.std.specs.List.{All}
use Rattle.pb_command_models.proofs.joint.places_besides.Given as goal

-- what holds of all places holds of those so far
abbrev pub invariant-loop-place : goal.invariant-loop-place
invariant-loop-place l = (bound : ℕ) → All (λ (k : ℕ). k < bound) l.places → All (λ (k : ℕ). k < bound) l.others.items
