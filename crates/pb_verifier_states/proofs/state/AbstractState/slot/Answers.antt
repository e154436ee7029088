use Rattle.pb_verifier_states.proofs.Ordered.{slot_if_ordered}
use Rattle.pb_verifier_states.proofs.state.AbstractState.slot.Goals as goal

pub returns-clause-ordered : goal.returns-clause-ordered
returns-clause-ordered c =
    slot_if_ordered c.deref.result.now c.deref-2.result.now c.args.slot c.find_slot.result
    (rw (c.deref.ensures.value) (c.self.invariant.3)) (rw (c.deref-2.ensures.value) (c.self.invariant.2)) c.find_slot.ensures
