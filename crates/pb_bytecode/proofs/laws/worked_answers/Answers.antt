use Rattle.std.proofs.Common.{refl}
use Rattle.pb_bytecode.proofs.laws.worked_answers.Goals as goal

pub returns : goal.returns
returns c = record {
  greatest_alone = refl;
  least_alone = refl;
  greatest_dominates = refl;
  least_dominates = refl;
  initial_value = refl;
  other_value = refl;
}
