use Rattle.std.proofs.Common.{◌≡◌, ◌*◌, ◌^◌}
use Rattle.pb_model_sizes.specs.Numbers.{number_in}
use Rattle.pb_model_sizes.proofs.states.raised.Given as goal

-- the power so far
abbrev pub invariant-loop-turn : goal.invariant-loop-turn
invariant-loop-turn l = number_in l.product ≡ number_in l.fn.number * l.size ^ l.turn
