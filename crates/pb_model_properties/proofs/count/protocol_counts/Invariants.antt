use Rattle.std.proofs.Common.{◌≡◌, ◌++◌, drop, map}
use Rattle.std.specs.Prelude.{vec_len}
use Rattle.pb_protocol_tree.specs.declared.protocol.StateVariables.{StateVariables}
use Rattle.pb_model_properties.proofs.count.protocol_counts.Given as goal

-- the counts so far, and those that are left
abbrev pub invariant-loop-group : goal.invariant-loop-group
invariant-loop-group l = let count = λ (g : StateVariables). vec_len g.variables in l.counts.items ++ map count (drop l.group-index l.state) ≡ map count l.state
