use Rattle.std.proofs.Common.{◌≡◌, ◌++◌, map, take}
use Rattle.std.specs.List.{flat_map}
use Rattle.pb_bytecode.specs.Spelling
use Rattle.pb_bytecode.specs.Views.{sort_contents}
use Rattle.pb_bytecode.proofs.encode.put_sorts.Given as goal

abbrev pub invariant-loop-sort : goal.invariant-loop-sort
invariant-loop-sort l = l.out.items ≡ l.fn.out.items ++ flat_map Spelling.sort_bytes (map sort_contents (take l.sort-index l.sorts))
