use Rattle.pb_strategy.proofs.Systems as systems
use Rattle.pb_strategy.proofs.laws.worked_examples.Goals as goal

pub returns : goal.returns
returns c = record {
  greatest_of_itself = systems.greatest_of_itself;
  least_of_itself = systems.least_of_itself;
  wrong_winner = systems.wrong_winner;
  least_first = systems.least_first;
  greatest_first = systems.greatest_first;
  each_other = systems.each_other;
  alternating_instances = systems.alternating_instances;
  nested_bracket = systems.nested_bracket;
  true_operand = systems.true_operand;
}
