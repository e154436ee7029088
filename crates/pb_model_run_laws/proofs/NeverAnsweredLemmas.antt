-- Runs to where an answer, or the step that has to follow, doesn't come.
use Rattle.std.proofs.Common.{◌≡◌, ◌⊎◌, ℕ, Bool, true, false, inl, inr, refl}
use Rattle.std.proofs.lemmas.Bool.{false_from_ne_true}
use Rattle.pb_text_meaning.specs.Syntax.{Name}
use Rattle.pb_model_meaning.specs.Syntax.{StepSet, Formula, Model}
use Rattle.pb_model_meaning.specs.Steps.{State, is_state, state_count}
use Rattle.pb_model_meaning.specs.Satisfaction.{Valuation, satisfying}
use Rattle.pb_model_runs.specs.Runs.{Move, last_state}
use Rattle.pb_model_runs.specs.Always.{IsWithout}
use Rattle.pb_model_runs.specs.Inevitably.{IsPutOff}
use Rattle.pb_model_runs.proofs.InevitablyLemmas.{for-ever}
use Rattle.pb_model_run_laws.specs.AtLast.{IsAvoided}
use Rattle.pb_model_run_laws.specs.Counterexamples.{NeverComes, FalseNeverAnswered, NeverAnsweredRefutes}
use Rattle.pb_model_run_laws.specs.Counterexamples.{NeverTaken, FalseNeverFollowed, NeverFollowedRefutes}
use Rattle.pb_model_run_laws.specs.Response.{response_by}
use Rattle.pb_model_run_laws.specs.StepResponse.{step_response_by}
use Rattle.pb_model_run_laws.proofs.AtLastLemmas.{fails-along}
use Rattle.pb_model_run_laws.proofs.CounterexampleLemmas.{put-off-is-never-coming}
use Rattle.pb_model_run_laws.proofs.FreeLemmas.{not-free-is-without}
use Rattle.pb_model_run_laws.proofs.ResponseLemmas.{false-is-unanswered, true-is-answered}
use Rattle.pb_model_run_laws.proofs.StepResponseLemmas.{false-is-unfollowed, true-is-followed}

-- what never comes can be put off for any number of steps
put-off : (m : Model) (ρ : Valuation) (A : StepSet) (Y : Name) (f : Formula) (s : State) → IsWithout m ρ Y f → NeverComes m ρ A f s → (n : ℕ) → IsPutOff m ρ A f s n
put-off m ρ A Y f s without (inl lasso) n = for-ever m ρ A Y f without s lasso n
put-off m ρ A Y f s without (inr off) n = record { path = off.path; run = off.run; by = off.by; within = off.within; fails = off.fails; ends = inr off.ends }

pub false-never-answered : FalseNeverAnswered
false-never-answered m ρ A B X Y p q s bound_p bound_q bound_y positive within e =
    let u = false-is-unanswered m ρ A B X Y p q s bound_p bound_q bound_y positive within e in
    let t = last_state s u.path in
    record { path = u.path; run = u.run; by = u.by; ends = by t (is_state m t) refl u.ends }
  where
    by : (t : State) (b : Bool) → is_state m t ≡ b → (is_state m t ≡ false) ⊎ ((satisfying m ρ p t ≡ true) × ((n : ℕ) → IsPutOff m ρ B q t n))
        → (is_state m t ≡ false) ⊎ ((satisfying m ρ p t ≡ true) × NeverComes m ρ B q t)
    by t false outside ends = inl outside
    by t true there (inl outside) = inl outside
    by t true there (inr asked) = inr (asked.0, put-off-is-never-coming m ρ B q t there (asked.1 (state_count m)))

pub never-answered-refutes : NeverAnsweredRefutes
never-answered-refutes m ρ A B X Y p q s bound_p bound_q bound_y positive within u =
    false_from_ne_true (satisfying m ρ (response_by A B X Y p q) s)
    (λ e. true-is-answered m ρ A B X Y p q s bound_p bound_q bound_y positive within e
    (record {
      path = u.path;
      run = u.run;
      by = u.by;
      ends = elim u.ends [
        | inl outside ↦ inl outside
        | inr asked ↦ inr (asked.0, put-off m ρ B Y q (last_state s u.path) (not-free-is-without m ρ Y q bound_y) asked.1)
      ];
    }))

-- ---- steps

avoided : (m : Model) (ρ : Valuation) (A : StepSet) (Y : Name) (s : State) → NeverTaken m A s → (n : ℕ) → IsAvoided m A s n
avoided m ρ A Y s (inr r) n = record { path = r.path; run = r.run; by = r.by; within = r.within; ends = inr r.ends }
avoided m ρ A Y s (inl l) n =
    let off = for-ever m ρ A Y (Formula.Truth false) (λ S. refl) s
    (record { stem = l.stem; loop = l.loop; lasso = l.lasso; goes_on = l.goes_on; by = l.by; within = l.within; fails = fails-along m ρ s _ }) n in
    record { path = off.path; run = off.run; by = off.by; within = off.within; ends = off.ends }

never-taken : (m : Model) (ρ : Valuation) (A : StepSet) (s : State) → is_state m s ≡ true → IsAvoided m A s (state_count m) → NeverTaken m A s
never-taken m ρ A s e v =
    elim (put-off-is-never-coming m ρ A (Formula.Truth false) s e
    (record { path = v.path; run = v.run; by = v.by; within = v.within; fails = fails-along m ρ s v.path; ends = v.ends })) [
      | inl l ↦ inl (record { stem = l.stem; loop = l.loop; lasso = l.lasso; goes_on = l.goes_on; by = l.by; within = l.within })
      | inr r ↦ inr (record { path = r.path; run = r.run; by = r.by; within = r.within; ends = r.ends })
    ]

pub false-never-followed : FalseNeverFollowed
false-never-followed m ρ A C B X Y s within e =
    let u = false-is-unfollowed m ρ A C B X Y s within e in
    let t = last_state s u.path in
    record {
      path = u.path;
      run = u.run;
      by = u.by;
      ends = elim u.ends [
        | inl outside ↦ inl outside
        | inr some ↦ let x = some.0 in inr (x, some.1, some.2, by x (is_state m x.state) refl some.3)
      ];
    }
  where
    by : (x : Move) (b : Bool) → is_state m x.state ≡ b → (is_state m x.state ≡ false) ⊎ ((n : ℕ) → IsAvoided m B x.state n)
        → (is_state m x.state ≡ false) ⊎ NeverTaken m B x.state
    by x false outside ends = inl outside
    by x true there (inl outside) = inl outside
    by x true there (inr alone) = inr (never-taken m ρ B x.state there (alone (state_count m)))

pub never-followed-refutes : NeverFollowedRefutes
never-followed-refutes m ρ A C B X Y s within u =
    false_from_ne_true (satisfying m ρ (step_response_by A C B X Y) s)
    (λ e. true-is-followed m ρ A C B X Y s within e
    (record {
      path = u.path;
      run = u.run;
      by = u.by;
      ends = elim u.ends [
        | inl outside ↦ inl outside
        | inr some ↦ inr (some.0, some.1, some.2, elim some.3 [ inl outside ↦ inl outside | inr alone ↦ inr (avoided m ρ B Y (some.0).state alone) ])
      ];
    }))
