use Rattle.std.proofs.Common.{refl}
use Rattle.std.specs.Fmt.{digits}
use Rattle.pb_model_words.proofs.worked_examples.Goals as goal

pub returns : goal.returns
unfolding digits
returns c = record {
  state = refl;
  array = refl;
  elements = refl;
  values = refl;
  step = refl;
  own_values = refl;
  stays = refl;
  changes = refl;
  mark = refl;
  called = refl;
  no_mark = refl;
}
