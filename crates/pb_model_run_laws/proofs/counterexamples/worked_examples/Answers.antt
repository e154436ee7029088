use Rattle.std.proofs.Common.{[], ◌∷◌, refl, arith}
use Rattle.std.specs.Prelude.{codes}
use Rattle.pb_model_meaning.specs.Examples.{p, q, idle, trying, critical, same, both, differs, step, becomes}
use Rattle.pb_text_meaning.specs.Syntax.{Term}
use Rattle.pb_model_run_laws.specs.Examples.{round}
use Rattle.pb_model_run_laws.proofs.counterexamples.worked_examples.Goals as goal

pub returns : goal.returns
returns c = record {
  overtaken = record {
    stem = [];
    loop = round;
    lasso = record {
      run = (
        (
          step (codes "try2") (same q idle) (becomes q (Term.Named trying) ∷ []),
          refl,
          record { step = (3, omega arith, refl); values = (0, omega arith, refl); enabled = refl; next = refl },
        ),
        (
          (
            step (codes "enter2") (both (same q trying) (differs p critical)) (becomes q (Term.Named critical) ∷ []),
            refl,
            record { step = (4, omega arith, refl); values = (0, omega arith, refl); enabled = refl; next = refl },
          ),
          (
            (
              step (codes "leave2") (same q critical) (becomes q (Term.Named idle) ∷ []),
              refl,
              record { step = (5, omega arith, refl); values = (0, omega arith, refl); enabled = refl; next = refl },
            ),
            tt,
          ),
        ),
      );
      back = refl;
    };
    goes_on = omega arith;
    by = (refl, (refl, (refl, tt)));
    within = (refl, (refl, (refl, tt)));
  };
}
