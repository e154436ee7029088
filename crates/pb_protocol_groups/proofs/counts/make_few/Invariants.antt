use Rattle.std.proofs.Common.{◌≡◌, ◌≤◌, drop, length}
use Rattle.std.specs.List.{list_all}
use Rattle.pb_model_meaning.specs.Erase.{model_of}
use Rattle.pb_protocol_packing.specs.Sizes.{cut_into_groups, makes_few}
use Rattle.pb_protocol_groups.specs.Variables.{members_for}
use Rattle.pb_protocol_groups.proofs.counts.make_few.Given as goal

-- all groups have few values where those do that are still to be tested
abbrev pub invariant-loop-size : goal.invariant-loop-size
invariant-loop-size l = record {
  within : l.first ≤ length l.variables;
  few : list_all makes_few (cut_into_groups (drop l.size-index l.sizes) (members_for (model_of l.model) (drop l.first l.variables)))
      ≡ list_all makes_few (cut_into_groups l.sizes (members_for (model_of l.model) l.variables));
}
