use Rattle.std.proofs.Common.{◌∙◌}
use Rattle.pb_protocol_unfolder.proofs.PlainState.{empty-definitions}
use Rattle.pb_protocol_unfolder.proofs.plain_test.has_no_definitions.Goals as goal

pub returns : goal.returns
returns c = c.is_empty.ensures ∙ empty-definitions c.args.definitions.now
