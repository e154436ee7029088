use Rattle.std.proofs.Common.{refl}
use Rattle.pb_text_meaning.specs.Functions.{named_function}
use Rattle.pb_protocol_packing.proofs.worked_examples.Goals as goal

pub returns : goal.returns
unfolding named_function
returns c =
    record {
      initial = refl;
      states = refl;
      go = refl;
      leaves = refl;
      back = refl;
      values = refl;
      test = refl;
      number =
          refl;
      unseen = refl;
      seen = refl;
      packed_formula = refl;
      formula = refl;
    }
