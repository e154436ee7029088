-- A loop that is gone round without an end.
use Rattle.std.proofs.Common.{◌≡◌, ℕ, zero, suc, ◌<◌, ◌≤◌, arith, Bool, true, false, true≢false, not, List, [], ◌∷◌, ◌++◌, length, refl, sym, ap, ◌∙◌, subst, inl, inr}
use Rattle.std.specs.Prelude.{Contains}
use Rattle.pb_model_meaning.specs.Syntax.{StepSet, Model}
use Rattle.pb_model_meaning.specs.Steps.{State, has_step}
use Rattle.pb_model_meaning.specs.Satisfaction.{satisfying}
use Rattle.pb_model_runs.specs.Runs.{Move, IsMove, IsRun, IsLasso, last_state}
use Rattle.pb_model_runs.specs.Always.{AreBy}
use Rattle.pb_model_runs.proofs.Elements.{first_of, later_of, either_of}
use Rattle.pb_model_runs.proofs.RunsLemmas.{Along}
use Rattle.pb_model_run_laws.specs.InfiniteRuns.{state_at}
use Rattle.pb_model_run_laws.specs.InfinitelyOften.{infinitely_often_by}
use Rattle.pb_model_run_laws.specs.EndlessLassos.{GoesRound, LassosAreInfiniteRuns, LassosRefuteInfinitelyOften}
use Rattle.pb_model_run_laws.proofs.InfiniteRunsLemmas.{tail-state}
use Rattle.pb_model_run_laws.proofs.InfinitelyOftenLemmas.{true-is-infinitely-often}

-- the moves of a list, and then those of a loop, z and zs, again and again
abbrev unrolled : Move → List Move → List Move → ℕ → Move
unrolled z zs [] zero = z
unrolled z zs [] (suc n) = unrolled z zs zs n
unrolled z zs (y ∷ rest) zero = y
unrolled z zs (y ∷ rest) (suc n) = unrolled z zs rest n

module _ (G : State → Move → Type 0) (z : Move) (zs : List Move) (c : State) (loop : Along G c (z ∷ zs)) (back : last_state z.state zs ≡ c) where
  -- the move behind n more
  endless : (n : ℕ) (t : State) (rest : List Move) → Along G t rest → last_state t rest ≡ c → G (state_at t (unrolled z zs rest) n) (unrolled z zs rest n)
  endless zero t [] h e = subst (λ (u : State). G u z) (sym e) loop.0
  endless zero t (y ∷ rest) h e = h.0
  endless (suc n) t [] h e =
      subst (λ (u : State). G u (unrolled z zs zs n)) (tail-state t (unrolled z zs []) n) (endless n z.state zs loop.1 back)
  endless (suc n) t (y ∷ rest) h e =
      subst (λ (u : State). G u (unrolled z zs rest n)) (tail-state t (unrolled z zs (y ∷ rest)) n) (endless n y.state rest h.1 e)

-- behind a list with moves of the loop come just such
all-round : (z : Move) (zs : List Move) (n : ℕ) (rest : List Move) → ((x : Move) → Contains rest x → Contains (z ∷ zs) x) → Contains (z ∷ zs) (unrolled z zs rest n)
all-round z zs zero [] among = first_of z zs
all-round z zs (suc n) [] among = all-round z zs n zs (λ x h. later_of z zs x h)
all-round z zs zero (y ∷ rest) among = among y (first_of y rest)
all-round z zs (suc n) (y ∷ rest) among = all-round z zs n rest (λ x h. among x (later_of y rest x h))

behind-stem : (z : Move) (zs : List Move) (n : ℕ) (stem : List Move) → length stem ≤ n → Contains (z ∷ zs) (unrolled z zs stem n)
behind-stem z zs n [] far = all-round z zs n [] (λ x h. absurd (omega (arith, h.1)))
behind-stem z zs zero (y ∷ stem) far = absurd (omega (arith, far))
behind-stem z zs (suc n) (y ∷ stem) far = behind-stem z zs n stem (omega (arith, far))

module _ (m : Model) (A : StepSet) where
  -- a move by a step of the set
  abbrev Taken : State → Move → Type 0
  Taken s x = IsMove m s x × (has_step A x.name ≡ true)

  taken : (s : State) (path : List Move) → IsRun m s path → AreBy A path → Along Taken s path
  taken s [] run by = tt
  taken s (x ∷ path) run by = ((run.0, by.0), taken x.state path run.1 by.1)

  stem-taken : (s : State) (stem loop : List Move) → Along Taken s (stem ++ loop) → Along Taken s stem
  stem-taken s [] loop h = tt
  stem-taken s (x ∷ stem) loop h = (h.0, stem-taken x.state stem loop h.1)

  loop-taken : (s : State) (stem loop : List Move) → Along Taken s (stem ++ loop) → Along Taken (last_state s stem) loop
  loop-taken s [] loop h = h
  loop-taken s (x ∷ stem) loop h = loop-taken x.state stem loop h.1

  pub loop-end : (s : State) (stem loop : List Move) → last_state s (stem ++ loop) ≡ last_state (last_state s stem) loop
  loop-end s [] loop = refl
  loop-end s (x ∷ stem) loop = loop-end x.state stem loop

  goes-round : (s : State) (stem loop : List Move) → IsLasso m s stem loop → 0 < length loop → AreBy A (stem ++ loop) → GoesRound m A s stem loop
  goes-round s stem [] lasso long by = absurd (omega (arith, long))
  goes-round s stem (z ∷ zs) lasso long by =
      let all = taken s (stem ++ (z ∷ zs)) lasso.run by in
      let back = sym (loop-end s stem (z ∷ zs)) ∙ lasso.back in
      let each : (n : ℕ) → Taken (state_at s (unrolled z zs stem) n) (unrolled z zs stem n) =
      λ n. endless Taken z zs (last_state s stem) (loop-taken s stem (z ∷ zs) all) back n s stem (stem-taken s stem (z ∷ zs) all) refl in
      record { run = unrolled z zs stem; infinite = record { moves = λ n. (each n).0; by = λ n. (each n).1 }; round = λ n far. behind-stem z zs n stem far }

pub lassos-are-infinite-runs : LassosAreInfiniteRuns
lassos-are-infinite-runs m A s stem loop lasso long by = goes-round m A s stem loop lasso long by

-- each of moves by a set is
one-by : (A : StepSet) (path : List Move) (x : Move) → AreBy A path → Contains path x → has_step A x.name ≡ true
one-by A [] x by h = absurd (omega (arith, h.1))
one-by A (y ∷ path) x by h = elim (either_of y path x h) [
  | inl same ↦ ap (λ (z : Move). has_step A z.name) (sym same) ∙ by.0
  | inr later ↦ one-by A path x by.1 later
]

not-both : (b : Bool) → b ≡ true → not b ≡ true → ⊥
not-both true e h = true≢false (sym h)
not-both false e h = true≢false (sym e)

pub lassos-refute-infinitely-often : LassosRefuteInfinitelyOften
lassos-refute-infinitely-often m ρ A B X Y s stem loop apart within lasso long by without = decided (satisfying m ρ (infinitely_often_by A B X Y) s) refl
  where
    decided : (b : Bool) → satisfying m ρ (infinitely_often_by A B X Y) s ≡ b → b ≡ false
    decided false e = refl
    decided true e =
        let round = goes-round m (StepSet.Union A B) s stem loop lasso long by in
        let some = true-is-infinitely-often m ρ A B X Y s round.run apart within e round.infinite (length stem) in
        absurd (not-both (has_step A (round.run some.0).name) some.2 (one-by (StepSet.Complement A) loop (round.run some.0) without (round.round some.0 some.1)))
