use Rattle.std.proofs.Common.{refl}
use Rattle.pb_text_meaning.specs.Functions.{named_function}
use Rattle.pb_protocol_meaning.proofs.worked_examples_of_steps.Goals as goal

pub returns : goal.returns
unfolding named_function
returns c = record {
  at_once = refl;
  apart = refl;
  for_all = refl;
  not_all = refl;
  at_start = refl;
}
