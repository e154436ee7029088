use Rattle.std.proofs.Common.{◌≡◌, ◌++◌, decimal, drop}
use Rattle.std.specs.Prelude.{flat_map, reverse, string_bytes}
use Rattle.pb_model_sizes.proofs.number.push_reversed.Given as goal

-- the digits from the index on are written, the last first
abbrev pub invariant-loop-index : goal.invariant-loop-index
invariant-loop-index l = string_bytes l.lines ≡ string_bytes l.fn.lines ++ flat_map decimal (reverse (drop l.index l.digits))
