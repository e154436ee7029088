use Rattle.std.proofs.Common.{◌≡◌, map, take}
use Rattle.pb_fixpoint_trees.specs.Entries.{entry_there}
use Rattle.pb_fixpoint_trees.proofs.listed.entries_there.Given as goal

abbrev pub invariant-loop-place : goal.invariant-loop-place
invariant-loop-place l = l.entries.items ≡ map (entry_there l.lists) (take l.place-index l.index)
