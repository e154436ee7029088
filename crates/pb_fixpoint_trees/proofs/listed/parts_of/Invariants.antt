use Rattle.std.proofs.Common.{◌≡◌, All, map}
use Rattle.pb_fixpoint_trees.specs.Entries.{AreInside, rows_in}
use Rattle.pb_fixpoint_trees.proofs.listed.parts_of.Given as goal

abbrev pub invariant-loop-rows : goal.invariant-loop-rows
invariant-loop-rows l = (map rows_in l.parts.items ≡ l.yielded) × All AreInside l.parts.items
