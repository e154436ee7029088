use Rattle.pb_protocol_packing.proofs.Packable.{is-packing}
use Rattle.pb_protocol_packing.proofs.Steps as packed_step
use Rattle.pb_protocol_packing.specs.Groups.{groups_of}
use Rattle.pb_protocol_laws.proofs.Packed.{packed_models_are_solved}
use Rattle.pb_protocol_laws.proofs.solved.packed_models_are_solved.Goals as goal

pub returns : goal.returns
returns c =
    packed_models_are_solved c.packed_models_have_the_answer.ensures.properties c.packed_models_have_the_answer.ensures.states
    (λ m able t is. packed_step.state m (groups_of m) (is-packing m able) t is)
