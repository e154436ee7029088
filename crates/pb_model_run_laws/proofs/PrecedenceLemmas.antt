-- Precedence is weak until.
use Rattle.std.proofs.Common.{◌≡◌, Bool, true, false, true≢false, not, refl, ap, inl, inr}
use Rattle.pb_model_meaning.specs.Syntax.{Formula, Model}
use Rattle.pb_model_meaning.specs.Satisfaction.{States, Valuation}
use Rattle.pb_text_meaning.specs.Syntax.{Name}
use Rattle.pb_model_runs.specs.Always.{IsWithout}
use Rattle.pb_model_run_laws.specs.Precedence.{FalsePrecedenceHasRun, TruePrecedenceHasNone}
use Rattle.pb_model_run_laws.specs.WeakUntil.{IsBroken}
use Rattle.pb_model_run_laws.proofs.WeakUntilLemmas.{false-weak-until-has-run, true-weak-until-is-unbroken}

pub not-false : (b : Bool) → not b ≡ false → b ≡ true
not-false true e = refl
not-false false e = absurd (true≢false e)

not-without : (m : Model) (ρ : Valuation) (Y : Name) (q : Formula) → IsWithout m ρ Y q → IsWithout m ρ Y (Formula.Not q)
not-without m ρ Y q without S = ap {B = States} (λ (F : States) s. not (F s)) (without S)

pub false-precedence-has-run : FalsePrecedenceHasRun
false-precedence-has-run m ρ A Y p q s without_p without_q e =
    let v = false-weak-until-has-run m ρ A Y (Formula.Not q) p s (not-without m ρ Y q without_q) without_p e in
    record {
      path = v.path;
      run = v.run;
      by = v.by;
      waits = v.waits;
      ends = elim v.ends [ inl outside ↦ inl outside | inr neither ↦ inr (not-false _ neither.0, neither.1) ];
    }

pub true-precedence-has-none : TruePrecedenceHasNone
true-precedence-has-none m ρ A Y p q s without_p without_q positive within e v =
    let broken : IsBroken m ρ A (Formula.Not q) p s = record {
      path = v.path;
      run = v.run;
      by = v.by;
      waits = v.waits;
      ends = elim v.ends [ inl outside ↦ inl outside | inr early ↦ inr (ap not early.0, early.1) ];
    } in
    true-weak-until-is-unbroken m ρ A Y (Formula.Not q) p s (not-without m ρ Y q without_q) without_p positive within e broken
