use Rattle.std.proofs.Common.{take}
use Rattle.pb_protocol_unfolder_terms.specs.Counts.{AreCounts}
use Rattle.pb_protocol_unfolder_terms.proofs.meant.definition_counts.Given as goal

abbrev pub invariant-loop-place : goal.invariant-loop-place
invariant-loop-place l = AreCounts l.counts (take l.place l.definitions)
