-- Where something doesn't come at last, a lasso, a dead end or a way out shows it, and they alone do.
use Rattle.std.proofs.Common.{◌≡◌, true, false, List, [], ◌∷◌, ◌++◌, refl, subst, inl, inr, arith}
use Rattle.std.proofs.lemmas.Bool.{false_from_ne_true}
use Rattle.pb_model_meaning.specs.Syntax.{StepSet, Formula, Model}
use Rattle.pb_model_meaning.specs.Steps.{State, is_state, state_count}
use Rattle.pb_model_meaning.specs.Satisfaction.{Valuation, satisfying}
use Rattle.pb_model_runs.specs.Runs.{Move, IsRun}
use Rattle.pb_model_runs.specs.Always.{AreBy}
use Rattle.pb_model_runs.specs.Possibly.{StaysWithin}
use Rattle.pb_model_runs.specs.Inevitably.{inevitably_by, FailsAlong, IsPutOff, IsPutOffForEver}
use Rattle.pb_model_runs.proofs.InevitablyLemmas.{false-is-put-off, true-is-bounded, lassos-refute}
use Rattle.pb_model_run_laws.specs.Counterexamples.{ComesBack, NeverComes, FalseNeverComes, NeverComesRefutes}
use Rattle.pb_model_run_laws.specs.Counterexamples.{FalseNeverTaken, NeverTakenRefutes, NeverMet, FalseNeverMet, NeverMetRefutes}
use Rattle.pb_model_run_laws.specs.Until.{until_by, IsKeptWaiting, IsKeptWaitingForEver}
use Rattle.pb_model_run_laws.specs.Waiting.{WaitsAlong}
use Rattle.pb_model_run_laws.proofs.AtLastLemmas.{fails-along}
use Rattle.pb_model_run_laws.proofs.ComesBackLemmas.{long-runs-come-back}
use Rattle.pb_model_run_laws.proofs.UntilLemmas.{false-until-keeps-waiting, true-until-is-bounded, lassos-refute-until}

-- ---- the first moves of a path

run-first : (m : Model) (s : State) (xs ys : List Move) → IsRun m s (xs ++ ys) → IsRun m s xs
run-first m s [] ys h = tt
run-first m s (x ∷ xs) ys h = (h.0, run-first m x.state xs ys h.1)

by-first : (A : StepSet) (xs ys : List Move) → AreBy A (xs ++ ys) → AreBy A xs
by-first A [] ys h = tt
by-first A (x ∷ xs) ys h = (h.0, by-first A xs ys h.1)

within-first : (m : Model) (xs ys : List Move) → StaysWithin m (xs ++ ys) → StaysWithin m xs
within-first m [] ys h = tt
within-first m (x ∷ xs) ys h = (h.0, within-first m xs ys h.1)

fails-first : (m : Model) (ρ : Valuation) (f : Formula) (s : State) (xs ys : List Move) → FailsAlong m ρ f s (xs ++ ys) → FailsAlong m ρ f s xs
fails-first m ρ f s [] [] h = h
fails-first m ρ f s [] (y ∷ ys) h = h.0
fails-first m ρ f s (x ∷ xs) ys h = (h.0, fails-first m ρ f x.state xs ys h.1)

waits-first : (m : Model) (ρ : Valuation) (p q : Formula) (s : State) (xs ys : List Move) → WaitsAlong m ρ p q s (xs ++ ys) → WaitsAlong m ρ p q s xs
waits-first m ρ p q s [] ys h = tt
waits-first m ρ p q s (x ∷ xs) ys h = (h.0, h.1, waits-first m ρ p q x.state xs ys h.2)

-- ---- f at last

for-ever : (m : Model) (ρ : Valuation) (A : StepSet) (f : Formula) (s : State) (path : List Move) → IsRun m s path → AreBy A path → StaysWithin m path → FailsAlong m ρ f s path
    → ComesBack s path → IsPutOffForEver m ρ A f s
for-ever m ρ A f s path run by within fails back =
    let xs = back.stem ++ back.loop in
    record {
      stem = back.stem;
      loop = back.loop;
      lasso = record { run = run-first m s xs back.rest (subst (λ (z : List Move). IsRun m s z) back.parts run); back = back.back };
      goes_on = back.goes_on;
      by = by-first A xs back.rest (subst (λ (z : List Move). AreBy A z) back.parts by);
      within = within-first m xs back.rest (subst (λ (z : List Move). StaysWithin m z) back.parts within);
      fails = fails-first m ρ f s xs back.rest (subst (λ (z : List Move). FailsAlong m ρ f s z) back.parts fails);
    }

pub put-off-is-never-coming : (m : Model) (ρ : Valuation) (A : StepSet) (f : Formula) (s : State) → is_state m s ≡ true → IsPutOff m ρ A f s (state_count m) → NeverComes m ρ A f s
put-off-is-never-coming m ρ A f s e off = elim off.ends [
  | inl long ↦ inl (for-ever m ρ A f s off.path off.run off.by off.within off.fails (long-runs-come-back m s off.path e off.within (omega (arith, long))))
  | inr ends ↦ inr (record { path = off.path; run = off.run; by = off.by; within = off.within; fails = off.fails; ends = ends })
]

pub false-never-comes : FalseNeverComes
false-never-comes m ρ A Y f s without positive e h = put-off-is-never-coming m ρ A f s e (false-is-put-off m ρ A Y f s without positive e h (state_count m))

pub never-comes-refutes : NeverComesRefutes
never-comes-refutes m ρ A Y f s without (inl lasso) = lassos-refute m ρ A Y f s without lasso
never-comes-refutes m ρ A Y f s without (inr off) =
    false_from_ne_true (satisfying m ρ (inevitably_by A Y f) s)
    (λ e. true-is-bounded m ρ A Y f s without e (record { path = off.path; run = off.run; by = off.by; within = off.within; fails = off.fails; ends = inr off.ends }))

-- ---- a step of others at last: `false` is inevitable

pub false-never-taken : FalseNeverTaken
false-never-taken m ρ A Y s e h =
    elim (false-never-comes m ρ A Y (Formula.Truth false) s (λ S. refl) ((tt, (tt, λ k. refl)), (tt, (tt, tt))) e h) [
      | inl l ↦ inl (record { stem = l.stem; loop = l.loop; lasso = l.lasso; goes_on = l.goes_on; by = l.by; within = l.within })
      | inr r ↦ inr (record { path = r.path; run = r.run; by = r.by; within = r.within; ends = r.ends })
    ]

pub never-taken-refutes : NeverTakenRefutes
never-taken-refutes m ρ A Y s (inl l) =
    never-comes-refutes m ρ A Y (Formula.Truth false) s (λ S. refl)
    (inl (record {
      stem = l.stem;
      loop = l.loop;
      lasso = l.lasso;
      goes_on = l.goes_on;
      by = l.by;
      within = l.within;
      fails = fails-along m ρ s (l.stem ++ l.loop);
    }))
never-taken-refutes m ρ A Y s (inr r) =
    never-comes-refutes m ρ A Y (Formula.Truth false) s (λ S. refl)
    (inr (record { path = r.path; run = r.run; by = r.by; within = r.within; fails = fails-along m ρ s r.path; ends = r.ends }))

-- ---- p until q

waits-for-ever : (m : Model) (ρ : Valuation) (A : StepSet) (p q : Formula) (s : State) (path : List Move) → IsRun m s path → AreBy A path → StaysWithin m path → WaitsAlong m ρ p q s path
    → ComesBack s path → IsKeptWaitingForEver m ρ A p q s
waits-for-ever m ρ A p q s path run by within waits back =
    let xs = back.stem ++ back.loop in
    record {
      stem = back.stem;
      loop = back.loop;
      lasso = record { run = run-first m s xs back.rest (subst (λ (z : List Move). IsRun m s z) back.parts run); back = back.back };
      goes_on = back.goes_on;
      by = by-first A xs back.rest (subst (λ (z : List Move). AreBy A z) back.parts by);
      within = within-first m xs back.rest (subst (λ (z : List Move). StaysWithin m z) back.parts within);
      waits = waits-first m ρ p q s xs back.rest (subst (λ (z : List Move). WaitsAlong m ρ p q s z) back.parts waits);
    }

pub kept-waiting-is-never-met : (m : Model) (ρ : Valuation) (A : StepSet) (p q : Formula) (s : State) → is_state m s ≡ true → IsKeptWaiting m ρ A p q s (state_count m) → NeverMet m ρ A p q s
kept-waiting-is-never-met m ρ A p q s e k = elim k.ends [
  | inl long ↦ inl (waits-for-ever m ρ A p q s k.path k.run k.by k.within k.waits (long-runs-come-back m s k.path e k.within (omega (arith, long))))
  | inr ends ↦ inr (record { path = k.path; run = k.run; by = k.by; within = k.within; waits = k.waits; fails = k.fails; ends = ends })
]

pub false-never-met : FalseNeverMet
false-never-met m ρ A Y p q s without_p without_q positive e h =
    kept-waiting-is-never-met m ρ A p q s e (false-until-keeps-waiting m ρ A Y p q s without_p without_q positive e h (state_count m))

pub never-met-refutes : NeverMetRefutes
never-met-refutes m ρ A Y p q s without_p without_q (inl lasso) = lassos-refute-until m ρ A Y p q s without_p without_q lasso
never-met-refutes m ρ A Y p q s without_p without_q (inr k) =
    false_from_ne_true (satisfying m ρ (until_by A Y p q) s)
    (λ e. true-until-is-bounded m ρ A Y p q s without_p without_q e
    (record { path = k.path; run = k.run; by = k.by; within = k.within; waits = k.waits; fails = k.fails; ends = inr k.ends }))
