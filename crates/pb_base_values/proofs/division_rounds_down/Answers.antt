use Rattle.pb_base_values.proofs.Division as division
use Rattle.pb_base_values.proofs.division_rounds_down.Goals as goal

pub returns-clause-adds_up : goal.returns-clause-adds_up
returns-clause-adds_up c = λ a b above. division.adds_up a b above

pub returns-clause-within : goal.returns-clause-within
returns-clause-within c = λ a b above. division.within a b above
