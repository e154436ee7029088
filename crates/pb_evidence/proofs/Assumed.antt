-- What evidence shows doesn't depend on the trees that are not in it.
use Rattle.std.proofs.Common.{sym}
use Rattle.pb_evidence.proofs.Proving.{proof_graphs_prove}
use Rattle.pb_evidence.proofs.AssumedGraphs.{assumed_graphs_prove, assumed_choices_hold}
use Rattle.pb_evidence.specs.Evidence.{graph_of}
use Rattle.pb_evidence.specs.Assumed.{AssumedIsShown}

pub assumed_is_shown : AssumedIsShown
assumed_is_shown signatures trees assumed n e shows all =
    let graph = assumed_graphs_prove signatures trees assumed e.truth (graph_of e) shows.graph all in
    record {
      truth = sym (proof_graphs_prove signatures trees e.truth (graph_of e) graph n shows.initial);
      graph = graph;
      choices = assumed_choices_hold trees assumed e.truth (graph_of e) shows.choices all;
      initial = shows.initial;
      first = shows.first;
      once = shows.once;
      nearest = shows.nearest;
      each = shows.each;
      apart = shows.apart;
    }
