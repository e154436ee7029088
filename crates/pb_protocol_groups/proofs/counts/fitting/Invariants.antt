use Rattle.std.proofs.Common.{◌≡◌, ◌+◌, ◌<◌, ◌^◌, drop}
use Rattle.pb_model_meaning.specs.Erase.{model_of}
use Rattle.pb_protocol_packing.specs.Sizes.{fitting}
use Rattle.pb_protocol_groups.specs.Variables.{members_for}
use Rattle.pb_protocol_groups.proofs.counts.fitting.Given as goal

-- those so far, and those of the others that can stand behind them
abbrev pub invariant-loop-index : goal.invariant-loop-index
invariant-loop-index l = record {
  found : l.index + fitting l.together (members_for (model_of l.model) (drop l.index l.variables)) ≡ fitting l.values (members_for (model_of l.model) l.variables);
  small : l.together < 2 ^ 64;
}
