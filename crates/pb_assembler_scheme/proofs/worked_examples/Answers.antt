use Rattle.std.proofs.Common.{refl}
use Rattle.pb_assembler_scheme.proofs.worked_examples.Goals as goal

pub returns : goal.returns
returns c = record {
  others = record {
    form = refl;
    program = record { compiled = record { code = refl; slots = refl; steps = refl; tokens = refl }; parameters = refl; callees = refl };
    at_b = refl;
  };
  countdown = record {
    form = refl;
    program = record { compiled = record { code = refl; slots = refl; steps = refl; tokens = refl }; parameters = refl; callees = refl };
    at_0 = refl;
    at_9 = refl;
  };
}
