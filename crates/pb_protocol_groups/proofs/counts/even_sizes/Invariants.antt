use Rattle.std.proofs.Common.{◌≡◌, ◌+◌, ◌/◌, ◌%◌, ◌++◌}
use Rattle.std.specs.Prelude.{replicate}
use Rattle.pb_protocol_groups.proofs.counts.even_sizes.Given as goal

abbrev pub invariant-loop : goal.invariant-loop
invariant-loop l = l.sizes.items ≡ replicate l.counter (l.count / 8 + 1)

abbrev pub invariant-loop-2 : goal.invariant-loop-2
invariant-loop-2 l = l.sizes.items ≡ replicate (l.count % 8) (l.count / 8 + 1) ++ replicate l.counter (l.count / 8)
