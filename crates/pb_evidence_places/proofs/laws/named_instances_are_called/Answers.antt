use Rattle.pb_evidence_places.proofs.Called.{graph-called}
use Rattle.pb_evidence_places.proofs.laws.named_instances_are_called.Goals as goal

pub returns : goal.returns
returns c = λ text m e well compiled have is.
    graph-called c.normal_forms_are_of_typed_trees.ensures text well m compiled have e is
