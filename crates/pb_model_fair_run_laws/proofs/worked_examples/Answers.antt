use Rattle.std.proofs.Common.{[], ◌∷◌, refl, arith, subst, inl, inr}
use Rattle.std.specs.Prelude.{codes}
use Rattle.pb_text_meaning.specs.Syntax.{Term}
use Rattle.pb_model_meaning.specs.Examples.{lock, p, q, idle, trying, critical, same, both, differs, step, becomes}
use Rattle.pb_model_meaning.specs.Syntax.{StepSet}
use Rattle.pb_model_runs.proofs.Elements.{either_of}
use Rattle.pb_model_run_laws.specs.Examples.{kept_out, round}
use Rattle.pb_model_fair_run_laws.specs.Examples.{first, second}
use Rattle.pb_model_fair_run_laws.specs.Once.{Once}
use Rattle.pb_model_fair_run_laws.specs.PutOffFairly.{IsServed}
use Rattle.pb_model_fair_run_laws.proofs.worked_examples.Goals as goal

pub returns : goal.returns
returns c = record {
  overtaken = record {
    stem = [];
    loop = round;
    lasso = record {
      run = (
        (
          step (codes "try2") (same q idle) (becomes q (Term.Named trying) ∷ []),
          refl,
          record { step = (3, omega arith, refl); values = (0, omega arith, refl); enabled = refl; next = refl },
        ),
        (
          (
            step (codes "enter2") (both (same q trying) (differs p critical)) (becomes q (Term.Named critical) ∷ []),
            refl,
            record { step = (4, omega arith, refl); values = (0, omega arith, refl); enabled = refl; next = refl },
          ),
          (
            (
              step (codes "leave2") (same q critical) (becomes q (Term.Named idle) ∷ []),
              refl,
              record { step = (5, omega arith, refl); values = (0, omega arith, refl); enabled = refl; next = refl },
            ),
            tt,
          ),
        ),
      );
      back = refl;
    };
    goes_on = omega arith;
    within = (refl, (refl, (refl, tt)));
    fails = (refl, (refl, (refl, refl)));
    fair = λ A among. elim (either_of first (second ∷ []) A among) [
      | inl one ↦ subst (λ (B : StepSet). Once (IsServed lock B) kept_out round) one (inr (inr (inl (inr refl))))
      | inr others ↦ elim (either_of second [] A others) [
        | inl two ↦ subst (λ (B : StepSet). Once (IsServed lock B) kept_out round) two (inl (inl refl))
        | inr none ↦ absurd (omega (arith, none.1))
      ]
    ];
  };
}
