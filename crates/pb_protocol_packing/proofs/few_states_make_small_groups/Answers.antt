use Rattle.pb_protocol_packing.proofs.Sizes.{few_states_make_small_groups}
use Rattle.pb_protocol_packing.proofs.few_states_make_small_groups.Goals as goal

pub returns : goal.returns
returns c = few_states_make_small_groups
