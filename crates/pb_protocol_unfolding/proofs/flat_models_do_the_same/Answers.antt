use Rattle.pb_protocol_unfolding.proofs.FlatModels.{flat_models_satisfy_the_same, flat_models_go_the_same, flat_names_are_apart, flat_translations_have_the_answer}
use Rattle.pb_protocol_unfolding.proofs.flat_models_do_the_same.Goals as goal

pub returns : goal.returns
returns c = record {
  satisfaction = flat_models_satisfy_the_same;
  steps = flat_models_go_the_same;
  names = flat_names_are_apart;
  translation = flat_translations_have_the_answer;
}
