use Rattle.std.proofs.Common.{refl}
use Rattle.pb_text_meaning.proofs.worked_examples_without_data.Goals as goal

pub returns-clause-greatest_alone : goal.returns-clause-greatest_alone
returns-clause-greatest_alone c = refl

pub returns-clause-least_alone : goal.returns-clause-least_alone
returns-clause-least_alone c = refl

pub returns-clause-least_dominates : goal.returns-clause-least_dominates
returns-clause-least_dominates c = refl

pub returns-clause-greatest_dominates : goal.returns-clause-greatest_dominates
returns-clause-greatest_dominates c = refl

pub returns-clause-later_least_is_empty : goal.returns-clause-later_least_is_empty
returns-clause-later_least_is_empty c = refl

pub returns-clause-premise_twice : goal.returns-clause-premise_twice
returns-clause-premise_twice c = refl

pub returns-clause-double_negation : goal.returns-clause-double_negation
returns-clause-double_negation c = refl
