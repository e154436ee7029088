use Rattle.std.proofs.Common.{refl, rules}
use Rattle.std.specs.Fmt.{digits}
use Rattle.pb_text_meaning.specs.Functions.{named_function}
use Rattle.pb_protocol_unfolding.proofs.worked_examples.Goals as goal

pub returns : goal.returns
unfolding named_function digits
returns c = record {
  hides_nothing = record {
    elements = search rules;
    enumerators = search rules;
    values = search rules;
    definitions = search rules;
    steps = search rules;
  };
  definition = refl;
  at_once = refl;
  count = refl;
  for_all = refl;
  by_variable = refl;
  names = refl;
  by_value = refl;
  reads_share = refl;
  one_writer = refl;
}
