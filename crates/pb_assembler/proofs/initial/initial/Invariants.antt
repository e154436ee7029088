use Rattle.std.proofs.Common.{◌≡◌, true, take}
use Rattle.std.specs.List.{list_all}
use Rattle.pb_bytecode.specs.Limits.{is_i64}
use Rattle.pb_assembler.proofs.initial.initial.Given as goal

abbrev pub invariant-loop-value : goal.invariant-loop-value
invariant-loop-value l = record {
  same : l.values.items ≡ take l.value-index l.value-items;
  words : list_all is_i64 l.values.items ≡ true;
}
