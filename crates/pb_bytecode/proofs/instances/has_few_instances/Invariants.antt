use Rattle.std.proofs.Common.{◌≡◌, ◌+◌, ◌≤◌, drop}
use Rattle.pb_bytecode.proofs.Counting.{instances}
use Rattle.pb_bytecode.proofs.instances.has_few_instances.Given as goal

abbrev pub invariant-loop-equation : goal.invariant-loop-equation
invariant-loop-equation l = (l.total ≤ l.limit) × (l.total + instances (drop l.equation-index l.equations) ≡ instances l.equations)
