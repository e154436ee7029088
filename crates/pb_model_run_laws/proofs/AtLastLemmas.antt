-- A step of others is taken at last where `false` is inevitable by the steps of A alone.
use Rattle.std.proofs.Common.{false, List, [], ◌∷◌, refl}
use Rattle.pb_model_meaning.specs.Syntax.{Formula, Model}
use Rattle.pb_model_meaning.specs.Steps.{State, state_count}
use Rattle.pb_model_meaning.specs.Satisfaction.{Valuation}
use Rattle.pb_model_runs.specs.Runs.{Move}
use Rattle.pb_model_runs.specs.Inevitably.{FailsAlong, IsPutOff}
use Rattle.pb_model_runs.proofs.InevitablyLemmas.{false-is-put-off, true-is-bounded}
use Rattle.pb_model_run_laws.specs.AtLast.{FalseAtLastIsAvoided, TrueAtLastIsBounded}

pub fails-along : (m : Model) (ρ : Valuation) (s : State) (path : List Move) → FailsAlong m ρ (Formula.Truth false) s path
fails-along m ρ s [] = refl
fails-along m ρ s (x ∷ path) = (refl, fails-along m ρ x.state path)

pub false-at-last-is-avoided : FalseAtLastIsAvoided
false-at-last-is-avoided m ρ A Y s within e n =
    let off = false-is-put-off m ρ A Y (Formula.Truth false) s (λ S. refl) ((tt, (tt, λ k. refl)), (tt, (tt, tt))) within e n in
    record { path = off.path; run = off.run; by = off.by; within = off.within; ends = off.ends }

pub true-at-last-is-bounded : TrueAtLastIsBounded
true-at-last-is-bounded m ρ A Y s e v =
    let off : IsPutOff m ρ A (Formula.Truth false) s (state_count m) =
    record { path = v.path; run = v.run; by = v.by; within = v.within; fails = fails-along m ρ s v.path; ends = v.ends } in
    true-is-bounded m ρ A Y (Formula.Truth false) s (λ S. refl) e off
