use Rattle.std.proofs.Common.{◌≡◌, ◌≤◌, ◌-◌, ◌++◌, drop, length}
use Rattle.pb_model_meaning.specs.Erase.{model_of}
use Rattle.pb_protocol_packing.specs.Sizes.{fitting_sizes}
use Rattle.pb_protocol_groups.specs.Variables.{members_for}
use Rattle.pb_protocol_groups.proofs.counts.fitting_sizes.Given as goal

-- the sizes so far, and those of what is left
abbrev pub invariant-loop : goal.invariant-loop
invariant-loop l = record {
  within : l.first ≤ length l.variables;
  sizes : l.sizes.items ++ fitting_sizes (8 - l.counter) (members_for (model_of l.model) (drop l.first l.variables)) ≡ fitting_sizes 7 (members_for (model_of l.model) l.variables);
}
