-- Runs to before a step behind which others can be put off.
use Rattle.std.proofs.Common.{◌≡◌, ◌⊎◌, ℕ, Bool, true, false, true≢false, if◌then◌else◌, refl, sym, ap, ◌∙◌, inl, inr}
use Rattle.pb_text_meaning.specs.Syntax.{Name, same_name}
use Rattle.pb_model_meaning.specs.Syntax.{StepSet, Formula, Model}
use Rattle.pb_model_meaning.specs.Steps.{State, is_state, state_count, successors}
use Rattle.pb_model_meaning.specs.Positive.{IsPositive}
use Rattle.pb_model_meaning.specs.Satisfaction.{States, Valuation, holds_at, satisfying}
use Rattle.pb_model_runs.specs.Runs.{Move, last_state}
use Rattle.pb_model_runs.specs.Always.{IsWithout}
use Rattle.pb_model_runs.proofs.Elements.{some-fails, each-holds}
use Rattle.pb_model_runs.proofs.AlwaysLemmas.{successor-led, led-successor, within-set}
use Rattle.pb_model_run_laws.specs.AtLast.{other_at_last_by, IsAvoided}
use Rattle.pb_model_run_laws.specs.StepResponse.{step_response_by, IsUnfollowed, FalseIsUnfollowed, TrueIsFollowed}
use Rattle.pb_model_run_laws.proofs.AtLastLemmas.{false-at-last-is-avoided, true-at-last-is-bounded}
use Rattle.pb_model_run_laws.proofs.FreeLemmas.{not-free-is-without}
use Rattle.pb_model_run_laws.proofs.EverywhereLemmas.{bound-under, violated-somewhere, holds-everywhere}

module _ (m : Model) (ρ : Valuation) (A C B : StepSet) (X Y : Name) where
  abbrev followed : Formula
  followed = other_at_last_by B Y

  abbrev S : States
  S = satisfying m ρ followed

  without-x : IsWithout m ρ X (Formula.Box C followed)
  without-x = not-free-is-without m ρ X (Formula.Box C followed) (bound-under (same_name Y X) false refl)

  positive : IsPositive (step_response_by A C B X Y)
  positive = ((λ e. refl, λ e. (tt, λ k. refl)), (tt, ((tt, λ k. refl), (tt, tt))))

  unfollowed : (t : State) → satisfying m ρ (Formula.Box C followed) t ≡ false → IsUnfollowed m C B t
  unfollowed t e =
      let found = some-fails (holds_at m followed S) (successors m C t) e in
      let led = successor-led m C t found.0 found.1 in
      (led.0, led.1, led.2, by led.0 (is_state m led.0.state) refl (ap (holds_at m followed S) led.3 ∙ found.2))
    where
      by : (x : Move) (b : Bool) → is_state m x.state ≡ b → (if b then S x.state else false) ≡ false → (is_state m x.state ≡ false) ⊎ ((n : ℕ) → IsAvoided m B x.state n)
      by x true within fails = inr (λ n. false-at-last-is-avoided m ρ B Y x.state within fails n)
      by x false outside fails = inl outside

  followed-there : (t : State) → satisfying m ρ (Formula.Box C followed) t ≡ true → IsUnfollowed m C B t → ⊥
  followed-there t e v =
      let x = v.0 in
      let held = within-set m ρ B Y (Formula.Truth true) (λ T. refl) S x.state (each-holds (holds_at m followed S) (successors m C t) x.state e (led-successor m C t x v.1 v.2)) in
      elim v.3 [
        | inl outside ↦ true≢false (sym held.0 ∙ outside)
        | inr avoided ↦ true-at-last-is-bounded m ρ B Y x.state held.1 (avoided (state_count m))
      ]

pub false-is-unfollowed : FalseIsUnfollowed
false-is-unfollowed m ρ A C B X Y s within e =
    let v = violated-somewhere m ρ A X (Formula.Box C (other_at_last_by B Y)) (without-x m ρ A C B X Y) s within e in
    record {
      path = v.path;
      run = v.run;
      by = v.by;
      ends = elim v.ends [ inl outside ↦ inl outside | inr some ↦ inr (unfollowed m ρ A C B X Y (last_state s v.path) some) ];
    }

pub true-is-followed : TrueIsFollowed
true-is-followed m ρ A C B X Y s within e v =
    let held = holds-everywhere m ρ A X (Formula.Box C (other_at_last_by B Y)) (without-x m ρ A C B X Y) (positive m ρ A C B X Y) s within e v.path v.run v.by in
    elim v.ends [ inl outside ↦ true≢false (sym held.0 ∙ outside) | inr some ↦ followed-there m ρ A C B X Y (last_state s v.path) held.1 some ]
