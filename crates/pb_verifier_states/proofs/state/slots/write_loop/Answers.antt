use Rattle.std.proofs.Common.{sym, ◌∙◌}
use Rattle.pb_verifier_states.proofs.Ordered.{set_loop_here}
use Rattle.pb_verifier_states.proofs.state.slots.write_loop.Goals as goal

pub returns-then-loops-i : goal.returns-then-loops-i
returns-then-loops-i c = set_loop_here c.loop-i.loops c.loop-i.i c.args.slot _ c.args.value (rw (c.loop-i.invariant.same) (c.loop-i-test.true)) c.if-loops-i.true ∙ sym c.loop-i.invariant.before
