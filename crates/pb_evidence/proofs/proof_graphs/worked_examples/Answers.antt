use Rattle.pb_evidence.proofs.Examples.{self_reference, one_of_two}
use Rattle.pb_evidence.proofs.proof_graphs.worked_examples.Goals as goal

pub returns-clause-self_reference : goal.returns-clause-self_reference
returns-clause-self_reference c = self_reference

pub returns-clause-one_of_two : goal.returns-clause-one_of_two
returns-clause-one_of_two c = one_of_two
