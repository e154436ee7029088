use Rattle.std.proofs.Common.{refl}
use Rattle.pb_text_meaning.specs.Functions.{named_function}
use Rattle.pb_protocol_meaning.proofs.worked_examples_of_terms.Goals as goal

pub returns : goal.returns
unfolding named_function
returns c = record {
  by_variable = refl;
  definition = refl;
  count = refl;
  no_name = refl;
}
