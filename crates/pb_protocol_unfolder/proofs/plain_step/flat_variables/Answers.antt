use Rattle.pb_protocol_unfolder.proofs.Groups.{variables-flat}
use Rattle.pb_protocol_unfolder.proofs.plain_step.flat_variables.Goals as goal

pub returns : goal.returns
returns c = variables-flat c.args.group.sort c.in_ok-names.names.items c.args.group.variables.items c.in_ok-names.ensures
