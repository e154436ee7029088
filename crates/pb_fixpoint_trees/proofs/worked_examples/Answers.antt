use Rattle.std.proofs.Common.{refl}
use Rattle.pb_fixpoint_trees.proofs.worked_examples.Goals as goal

pub returns : goal.returns
returns c = record {
  empty_brackets = record { conjunction = refl; disjunction = refl };
  nested_brackets = record { tokens = refl; of_all = refl; of_none = refl };
  self_reference = record { greatest = refl; least = refl };
  least_within_greatest = record { least_first = refl; greatest_first = refl };
}
