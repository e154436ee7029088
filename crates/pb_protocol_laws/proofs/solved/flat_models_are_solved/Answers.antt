use Rattle.pb_protocol_laws.proofs.Models.{plain_models_are_solved, unfolded_models_are_solved}
use Rattle.pb_protocol_laws.proofs.solved.flat_models_are_solved.Goals as goal

pub returns : goal.returns
returns c = record {
  plain = plain_models_are_solved c.plain_models_keep_their_meaning.ensures;
  unfolded = unfolded_models_are_solved c.flat_models_do_the_same.ensures.satisfaction c.flat_models_do_the_same.ensures.steps;
}
