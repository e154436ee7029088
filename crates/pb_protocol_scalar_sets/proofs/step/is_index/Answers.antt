use Rattle.std.proofs.Common.{◌∙◌, map, drop, sym}
use Rattle.pb_protocol_scalar_sets.specs.View.{variable_said}
use Rattle.pb_protocol_scalar_sets.proofs.Indices.{no-index}
use Rattle.pb_protocol_scalar_sets.proofs.step.is_index.Goals as goal

pub returns-in-None : goal.returns-in-None
returns-in-None c =
    let k = c.loop-place.place in
    sym (c.loop-place.invariant ∙ no-index c.args.sort.now c.args.name.now (map variable_said (drop k c.args.parameters.now)) c.args.index.now k c.in-None.ensures.lookup.3)
