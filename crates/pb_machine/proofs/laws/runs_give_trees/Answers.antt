use Rattle.pb_machine.proofs.Successors.{call_inside, call_succeeds, run_inside, successor_called, tree_meant}
use Rattle.pb_machine.proofs.laws.runs_give_trees.Goals as goal

pub returns-clause-instances : goal.returns-clause-instances
returns-clause-instances c = run_inside

pub returns-clause-calls : goal.returns-clause-calls
returns-clause-calls c = call_inside

pub returns-clause-tokens : goal.returns-clause-tokens
returns-clause-tokens c = tree_meant

pub returns-clause-successors : goal.returns-clause-successors
returns-clause-successors c m n tokens t trees are k = (call_succeeds m n tokens t trees are k, successor_called m n tokens t trees are k)
