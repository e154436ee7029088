use Rattle.std.proofs.Common.{◌≡◌, map, take}
use Rattle.pb_bytecode.specs.Contents.{counts}
use Rattle.pb_bytecode.specs.Views.{sort_contents}
use Rattle.pb_verifier.proofs.module_tables.enumerator_counts.Given as goal

abbrev pub invariant-loop-sort : goal.invariant-loop-sort
invariant-loop-sort l = l.sizes.items ≡ counts (map sort_contents (take l.sort-index l.sorts))
