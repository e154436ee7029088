-- A lasso without an end: what is so of each of its moves, and what comes in each round.
use Rattle.std.proofs.Common.{◌≡◌, ℕ, zero, suc, ◌≤◌, arith, List, [], ◌∷◌, ◌++◌, length, refl, sym, ap, ◌∙◌, subst, inl, inr}
use Rattle.pb_model_meaning.specs.Syntax.{StepSet, Formula, Model}
use Rattle.pb_model_meaning.specs.Steps.{State}
use Rattle.pb_model_meaning.specs.Satisfaction.{Valuation, satisfying}
use Rattle.pb_model_runs.specs.Runs.{Move, last_state}
use Rattle.pb_model_runs.proofs.RunsLemmas.{Along}
use Rattle.pb_model_run_laws.specs.InfiniteRuns.{state_at}
use Rattle.pb_model_fair_run_laws.specs.FairRuns.{GoesOnFairly, FairLassosGoOnFairly}
use Rattle.pb_model_fair_run_laws.specs.Once.{Once}
use Rattle.pb_model_fair_run_laws.specs.PutOffFairly.{IsServed, IsPutOffFairly}
use Rattle.pb_model_fair_run_laws.proofs.Paths.{IsStep, parted, end-of, failing-steps-of}

-- the moves of a list, and then those of a loop, z and zs, in each round
abbrev turning : Move → List Move → List Move → ℕ → Move
turning z zs [] zero = z
turning z zs [] (suc n) = turning z zs zs n
turning z zs (y ∷ rest) zero = y
turning z zs (y ∷ rest) (suc n) = turning z zs rest n

module _ (z : Move) (zs : List Move) where
  shifted-one : (t : State) (y : Move) (rest : List Move) (n : ℕ) → state_at y.state (turning z zs rest) n ≡ state_at t (turning z zs (y ∷ rest)) (suc n)
  shifted-one t y rest zero = refl
  shifted-one t y rest (suc n) = refl

  shifted-none : (t : State) (n : ℕ) → state_at z.state (turning z zs zs) n ≡ state_at t (turning z zs []) (suc n)
  shifted-none t zero = refl
  shifted-none t (suc n) = refl

  module _ (G : State → Move → Type 0) where
    -- what is so of a move is so of it with other moves before
    later-one : (t : State) (y : Move) (rest : List Move) (n : ℕ) → G (state_at y.state (turning z zs rest) n) (turning z zs rest n)
        → G (state_at t (turning z zs (y ∷ rest)) (suc n)) (turning z zs (y ∷ rest) (suc n))
    later-one t y rest n h = subst (λ (u : State). G u (turning z zs rest n)) (shifted-one t y rest n) h

    later-none : (t : State) (n : ℕ) → G (state_at z.state (turning z zs zs) n) (turning z zs zs n) → G (state_at t (turning z zs []) (suc n)) (turning z zs [] (suc n))
    later-none t n h = subst (λ (u : State). G u (turning z zs zs n)) (shifted-none t n) h

    module _ (c : State) (back : last_state z.state zs ≡ c) where
      each : Along G c (z ∷ zs) → (n : ℕ) (t : State) (rest : List Move) → Along G t rest → last_state t rest ≡ c → G (state_at t (turning z zs rest) n) (turning z zs rest n)
      each loop zero t [] h e = subst (λ (u : State). G u z) (sym e) loop.0
      each loop zero t (y ∷ rest) h e = h.0
      each loop (suc n) t [] h e = later-none t n (each loop n z.state zs loop.1 back)
      each loop (suc n) t (y ∷ rest) h e = later-one t y rest n (each loop n y.state rest h.1 e)

      -- a move after n others of which it is so
      abbrev Comes : State → List Move → ℕ → Type 0
      Comes t rest n = (k : ℕ) × (n ≤ k) × G (state_at t (turning z zs rest) k) (turning z zs rest k)

      comes-later : (t : State) (y : Move) (rest : List Move) (n j : ℕ) → j ≤ suc n → Comes y.state rest n → Comes t (y ∷ rest) j
      comes-later t y rest n j e (k, far, h) = (suc k, omega (arith, e, far), later-one t y rest k h)

      first : (t : State) (ys : List Move) → Once G t ys → Comes t ys zero
      first t [] once = absurd once
      first t (y ∷ ys) (inl now) = (zero, omega arith, now)
      first t (y ∷ ys) (inr later) = comes-later t y ys zero zero (omega arith) (first y.state ys later)

      -- the loop itself, after nothing
      from-loop : (t : State) → t ≡ c → (k : ℕ) → G (state_at c (turning z zs (z ∷ zs)) k) (turning z zs (z ∷ zs) k) → G (state_at t (turning z zs []) k) (turning z zs [] k)
      from-loop t e zero h = subst (λ (u : State). G u z) (sym e) h
      from-loop t e (suc zero) h = h
      from-loop t e (suc (suc k)) h = h

      module _ (once : Once G c (z ∷ zs)) where
        soon : (t : State) (rest : List Move) → last_state t rest ≡ c → Comes t rest zero
        soon t [] e = let one = first c (z ∷ zs) once in (one.0, omega arith, from-loop t e one.0 one.2)
        soon t (y ∷ rest) e = comes-later t y rest zero zero (omega arith) (soon y.state rest e)

        again : (n : ℕ) (t : State) (rest : List Move) → last_state t rest ≡ c → Comes t rest n
        again zero t rest e = soon t rest e
        again (suc n) t [] e =
            let one = again n z.state zs back in
            let far = one.1 in
            (suc one.0, omega (arith, far), later-none t one.0 one.2)
        again (suc n) t (y ∷ rest) e = comes-later t y rest n (suc n) (omega arith) (again n y.state rest e)

module _ (m : Model) (ρ : Valuation) (processes : List StepSet) (p : Formula) where
  abbrev G : State → Move → Type 0
  G = IsStep m StepSet.All (satisfying m ρ p)

  goes-on : (s : State) (l : IsPutOffFairly m ρ processes p s) (loop : List Move) → loop ≡ l.loop → GoesOnFairly m ρ processes p s
  goes-on s l [] e = let long = l.goes_on in let none : length l.loop ≡ 0 = ap length (sym e) in absurd (omega (arith, long, none))
  goes-on s l (z ∷ zs) e =
      let c = last_state s l.stem in
      let all = parted G s l.stem l.loop (failing-steps-of m ρ p s (l.stem ++ l.loop) l.lasso.run l.within l.fails) in
      let loop = subst (λ (xs : List Move). Along G c xs) (sym e) all.1 in
      let back : last_state z.state zs ≡ c = ap (last_state c) e ∙ sym (end-of s c l.stem l.loop refl) ∙ l.lasso.back in
      let moves : (n : ℕ) → G (state_at s (turning z zs l.stem) n) (turning z zs l.stem n) = λ n. each z zs G c back loop n s l.stem all.0 refl in
      record {
        run = turning z zs l.stem;
        infinite = record { moves = λ n. (moves n).move; by = λ n. (moves n).named };
        fair = λ A among n. again z zs (IsServed m A) c back (subst (λ (xs : List Move). Once (IsServed m A) c xs) (sym e) (l.fair A among)) n s l.stem refl;
        never = λ n. (moves n).lacks;
      }

pub fair-lassos-go-on-fairly : FairLassosGoOnFairly
fair-lassos-go-on-fairly m ρ processes p s l = goes-on m ρ processes p s l l.loop refl
