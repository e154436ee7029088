use Rattle.std.proofs.Common.{◌∙◌}
use Rattle.pb_protocol_unfolder.proofs.PlainState.{state-plain}
use Rattle.pb_protocol_unfolder.proofs.plain_test.is_plain_state.Goals as goal

pub returns : goal.returns
returns c = c.are_plain_groups.ensures ∙ state-plain c.args.groups.now
