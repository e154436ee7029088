use Rattle.pb_protocol_range_laws.proofs.Verdicts.{no-cut-means-one}
use Rattle.pb_protocol_range_laws.proofs.laws.no_cut_means_one.Goals as goal

pub returns : goal.returns
returns c =
    no-cut-means-one c.negations_decide_without_cuts.ensures c.plain_models_keep_their_meaning.ensures
    c.flat_models_do_the_same.ensures.satisfaction c.flat_models_do_the_same.ensures.names
    c.packed_models_have_the_answer.ensures.names c.packed_models_have_the_answer.ensures.properties
    c.packed_models_satisfy_the_same.ensures
