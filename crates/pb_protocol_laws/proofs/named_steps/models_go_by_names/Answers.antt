use Rattle.pb_protocol_packing.proofs.Packable.{is-packing}
use Rattle.pb_protocol_packing.proofs.Steps as packed_step
use Rattle.pb_protocol_packing.specs.Groups.{groups_of}
use Rattle.pb_protocol_laws.proofs.NamedSteps.{plain_models_go_by_names, unfolded_models_go_by_names, packed_models_go_by_names}
use Rattle.pb_protocol_laws.proofs.named_steps.models_go_by_names.Goals as goal

pub returns : goal.returns
returns c = record {
  plain = plain_models_go_by_names c.plain_models_keep_their_meaning.ensures;
  unfolded = unfolded_models_go_by_names;
  packed = packed_models_go_by_names c.packed_models_have_the_answer.ensures.states (λ m able t is. packed_step.state m (groups_of m) (is-packing m able) t is);
}
