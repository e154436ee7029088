use Rattle.std.proofs.Common.{◌^◌, ◌<◌}
use Rattle.pb_model_names.specs.Taken.{IsStart}
use Rattle.pb_model_names.proofs.fresh.first_free.Given as goal

-- the numbers that were tried are taken
abbrev pub invariant-loop-number : goal.invariant-loop-number
invariant-loop-number l = IsStart l.taken l.name l.number × (l.number < 2 ^ 64) × (l.end < 2 ^ 64)
