use Rattle.pb_protocol_unfolder_steps.proofs.StateLemmas.{spec-said}
use Rattle.pb_protocol_unfolder_steps.proofs.sorts.sorts_of.Goals as goal

pub returns : goal.returns
returns c = spec-said c.args.protocol.now c.deref.result.now c.deref-2.result.now c.deref.ensures.value c.deref-2.ensures.value
