-- Runs to where a step can be taken.
use Rattle.std.proofs.Common.{◌≡◌, Bool, true, false, true≢false, if◌then◌else◌, refl, sym, ◌∙◌, inl, inr}
use Rattle.pb_model_meaning.specs.Syntax.{StepSet, Formula, Model}
use Rattle.pb_model_meaning.specs.Steps.{State, is_state, successors}
use Rattle.pb_model_meaning.specs.Satisfaction.{Valuation, holds_at, satisfying}
use Rattle.pb_model_runs.proofs.Elements.{some-fails, each-holds}
use Rattle.pb_model_runs.proofs.AlwaysLemmas.{successor-led, led-successor, false-has-run, true-holds-on-runs}
use Rattle.pb_model_run_laws.specs.Never.{CanTake, FalseNeverHasRun, TrueNeverHasNone}

can-take : (m : Model) (ρ : Valuation) (B : StepSet) (s : State) → satisfying m ρ (Formula.Box B (Formula.Truth false)) s ≡ false → CanTake m B s
can-take m ρ B s e =
    let found = some-fails (holds_at m (Formula.Truth false) (λ t. false)) (successors m B s) e in
    let led = successor-led m B s found.0 found.1 in
    (led.0, led.1, led.2)

nothing : (b : Bool) → (if b then false else false) ≡ true → ⊥
nothing true e = true≢false (sym e)
nothing false e = true≢false (sym e)

can't-take : (m : Model) (ρ : Valuation) (B : StepSet) (s : State) → satisfying m ρ (Formula.Box B (Formula.Truth false)) s ≡ true → CanTake m B s → ⊥
can't-take m ρ B s e taken =
    let x = taken.0 in
    nothing (is_state m x.state) (each-holds (holds_at m (Formula.Truth false) (λ t. false)) (successors m B s) x.state e (led-successor m B s x taken.1 taken.2))

pub false-never-has-run : FalseNeverHasRun
false-never-has-run m ρ A B X s e =
    let v = false-has-run m ρ A X (Formula.Box B (Formula.Truth false)) s (λ S. refl) e in
    record {
      path = v.path;
      run = v.run;
      by = v.by;
      ends = elim v.ends [ inl outside ↦ inl outside | inr some ↦ inr (can-take m ρ B _ some) ];
    }

pub true-never-has-none : TrueNeverHasNone
true-never-has-none m ρ A B X s within e v =
    let held = true-holds-on-runs m ρ A X (Formula.Box B (Formula.Truth false)) s (λ S. refl) ((tt, λ k. refl), (tt, tt)) within e v.path v.run v.by in
    elim v.ends [ inl outside ↦ true≢false (sym held.0 ∙ outside) | inr taken ↦ can't-take m ρ B _ held.1 taken ]
