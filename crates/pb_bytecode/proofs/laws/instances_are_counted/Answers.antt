use Rattle.pb_bytecode.proofs.InstanceCounts.{count_is_limited, count_is_total}
use Rattle.pb_bytecode.proofs.laws.instances_are_counted.Goals as goal

pub returns-clause-equations : goal.returns-clause-equations
returns-clause-equations c = count_is_total

pub returns-clause-limited : goal.returns-clause-limited
returns-clause-limited c = count_is_limited
