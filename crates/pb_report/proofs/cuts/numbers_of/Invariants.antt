use Rattle.std.proofs.Common.{◌≡◌, take}
use Rattle.pb_fixpoint_trees.specs.Reached.{numbers_of}
use Rattle.pb_report.proofs.cuts.numbers_of.Given as goal

-- the numbers of the rows so far
abbrev pub invariant-loop-k : goal.invariant-loop-k
invariant-loop-k l = l.numbers.items ≡ numbers_of (take l.k l.rows)
