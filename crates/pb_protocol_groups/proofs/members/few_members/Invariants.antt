use Rattle.std.proofs.Common.{drop}
use Rattle.pb_model_meaning.specs.Erase.{model_of}
use Rattle.pb_protocol_groups.specs.Variables.{members_for}
use Rattle.pb_protocol_groups.proofs.Sizes.{AreMembers}
use Rattle.pb_protocol_groups.proofs.members.few_members.Given as goal

abbrev pub invariant-loop-index : goal.invariant-loop-index
invariant-loop-index l = AreMembers (members_for (model_of l.model) (drop l.index l.variables)) l.items.items l.capacity
