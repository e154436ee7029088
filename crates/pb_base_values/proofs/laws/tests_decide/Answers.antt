use Rattle.pb_base_values.proofs.Monotone.{non_empty_decides, within_decides, within_by_values, within_exact, unless_empty_exact}
use Rattle.pb_base_values.proofs.laws.tests_decide.Goals as goal

pub returns : goal.returns
returns c = record { non_empty = non_empty_decides; within = within_decides; values = within_by_values; limited = within_exact; unless_empty = unless_empty_exact }
