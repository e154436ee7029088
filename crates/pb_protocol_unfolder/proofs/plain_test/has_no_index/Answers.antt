use Rattle.std.proofs.Common.{◌∙◌}
use Rattle.pb_protocol_unfolder.proofs.PlainState.{empty-index}
use Rattle.pb_protocol_unfolder.proofs.plain_test.has_no_index.Goals as goal

pub returns : goal.returns
returns c = c.is_empty.ensures ∙ empty-index c.args.index.now
