use Rattle.std.proofs.Common.{◌≡◌, ◌≤◌, ◌*◌, map, drop}
use Rattle.pb_base_values.specs.Carrier.{tuple_count}
use Rattle.pb_sorts.specs.declared.counting.TheConstants.{MAX_NUMBERS}
use Rattle.pb_sorts.specs.Carrier.{values_of}
use Rattle.pb_sorts.proofs.tuple.count_tuples.Given as goal

-- the product of the sizes so far, with those that are left, counts all tuples
abbrev pub invariant-loop-carrier : goal.invariant-loop-carrier
invariant-loop-carrier l = record {
  product : l.count * tuple_count (map values_of (drop l.carrier-index l.carriers)) ≡ tuple_count (map values_of l.carriers);
  bound : l.count ≤ MAX_NUMBERS;
}
