use Rattle.std.proofs.Common.{arith}
use Rattle.pb_verifier_states.proofs.Ordered.{carriers_ordered}
use Rattle.pb_verifier_states.proofs.state.AbstractState.entry.Goals as goal

pub invariant_of-result : goal.invariant_of-result
invariant_of-result c = (rw (c.new.ensures.items) (omega arith), rw (c.new.ensures.items) tt, rw (c.in_ok-parameters.ensures) (carriers_ordered c.args.parameters.now), rw (c.new-2.ensures.items) tt)
