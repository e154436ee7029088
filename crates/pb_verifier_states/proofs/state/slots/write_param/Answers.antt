use Rattle.std.proofs.Common.{sym}
use Rattle.pb_verifier_states.proofs.Ordered.{set_param_is, set_param_past}
use Rattle.pb_verifier_states.proofs.state.slots.write_param.Goals as goal

pub returns-then-i-parameters : goal.returns-then-i-parameters
returns-then-i-parameters c = rw (c.from-i.ensures) (sym (set_param_is c.args.parameters.now c.args.slot c.args.value))

pub returns-else-i-parameters : goal.returns-else-i-parameters
returns-else-i-parameters c = set_param_past c.args.parameters.now c.args.slot c.args.value (rw (c.from-i.ensures) at (c.if-i-parameters.false))
