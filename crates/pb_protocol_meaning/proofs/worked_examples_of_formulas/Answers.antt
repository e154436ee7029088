use Rattle.std.proofs.Common.{refl}
use Rattle.pb_text_meaning.specs.Functions.{named_function}
use Rattle.pb_protocol_meaning.proofs.worked_examples_of_formulas.Goals as goal

pub returns : goal.returns
unfolding named_function
returns c = record {
  reads_share = refl;
  some_read = refl;
  one_writer = refl;
  by_definition = refl;
  outside_is_true = refl;
  outside_is_no_more = refl;
}
