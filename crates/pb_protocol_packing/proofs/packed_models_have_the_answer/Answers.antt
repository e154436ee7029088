use Rattle.pb_protocol_packing.proofs.Packable.{fixpoints_keep_their_names, have_few_variables, packed_names_are_apart, packed_translations_have_the_answer, properties_stay, states_stand_for_states}
use Rattle.pb_protocol_packing.proofs.packed_models_have_the_answer.Goals as goal

pub returns : goal.returns
returns c = record {
  names = packed_names_are_apart;
  fixpoints = fixpoints_keep_their_names;
  few = have_few_variables;
  properties = properties_stay;
  translation = packed_translations_have_the_answer;
  states = states_stand_for_states;
}
