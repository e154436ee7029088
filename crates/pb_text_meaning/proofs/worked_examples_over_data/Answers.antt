use Rattle.std.proofs.Common.{refl}
use Rattle.pb_text_meaning.proofs.worked_examples_over_data.Goals as goal

pub returns-clause-counting_down : goal.returns-clause-counting_down
returns-clause-counting_down c = refl

pub returns-clause-counting_out : goal.returns-clause-counting_out
returns-clause-counting_out c = refl

pub returns-clause-all_others : goal.returns-clause-all_others
returns-clause-all_others c = refl

pub returns-clause-two_states : goal.returns-clause-two_states
returns-clause-two_states c = refl

pub returns-clause-rounding_down : goal.returns-clause-rounding_down
returns-clause-rounding_down c = refl

pub returns-clause-alias_of_alias : goal.returns-clause-alias_of_alias
returns-clause-alias_of_alias c = refl
