-- Runs to where no step can be taken.
use Rattle.std.proofs.Common.{true, true≢false, refl, sym, ◌∙◌, inl, inr}
use Rattle.pb_model_meaning.specs.Syntax.{StepSet, Formula}
use Rattle.pb_model_meaning.specs.Steps.{successors}
use Rattle.pb_model_runs.proofs.AlwaysLemmas.{false-has-run, true-holds-on-runs}
use Rattle.pb_model_runs.proofs.InevitablyLemmas.{none-there, not-none}
use Rattle.pb_model_run_laws.specs.Deadlock.{FalseHasDeadlock, TrueHasNoDeadlock}

pub false-has-deadlock : FalseHasDeadlock
false-has-deadlock m ρ A X s e =
    let v = false-has-run m ρ A X (Formula.Diamond StepSet.All (Formula.Truth true)) s (λ S. refl) e in
    record {
      path = v.path;
      run = v.run;
      by = v.by;
      ends = elim v.ends [ inl outside ↦ inl outside | inr stuck ↦ inr (none-there m (successors m StepSet.All _) stuck) ];
    }

pub true-has-no-deadlock : TrueHasNoDeadlock
true-has-no-deadlock m ρ A X s within e v =
    let held = true-holds-on-runs m ρ A X (Formula.Diamond StepSet.All (Formula.Truth true)) s (λ S. refl) ((tt, λ k. refl), (tt, tt)) within e v.path v.run v.by in
    elim v.ends [ inl outside ↦ true≢false (sym held.0 ∙ outside) | inr stuck ↦ not-none m (successors m StepSet.All _) held.1 stuck ]
