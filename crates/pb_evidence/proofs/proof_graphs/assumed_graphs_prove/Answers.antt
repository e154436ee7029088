use Rattle.pb_evidence.proofs.AssumedGraphs.{assumed_graphs_prove, assumed_choices_hold}
use Rattle.pb_evidence.proofs.proof_graphs.assumed_graphs_prove.Goals as goal

pub returns-clause-graphs : goal.returns-clause-graphs
returns-clause-graphs c = assumed_graphs_prove

pub returns-clause-choices : goal.returns-clause-choices
returns-clause-choices c = assumed_choices_hold
