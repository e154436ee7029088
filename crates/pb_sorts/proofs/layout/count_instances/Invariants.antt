use Rattle.std.proofs.Common.{◌≡◌, ◌≤◌}
use Rattle.pb_sorts.specs.Instance.{first_of}
use Rattle.pb_sorts.specs.Layout.{carriers_of, lists_of}
use Rattle.pb_sorts.proofs.layout.count_instances.Given as goal

-- the instances so far are those of the equations before this one
abbrev pub invariant-loop-parameters : goal.invariant-loop-parameters
invariant-loop-parameters l = record {
  counted : l.count ≡ first_of (carriers_of (lists_of l.equations)) l.parameters-index;
  few : l.count ≤ l.limit;
}
