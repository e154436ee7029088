-- Where each step of a loop either leads to an earlier set of a least fixpoint or keeps what a state of it claims, and somewhere in the loop it can't be kept, no state of the loop is in the fixpoint.
use Rattle.std.proofs.Common.{◌≡◌, ◌⊎◌, ℕ, zero, suc, List, [], ◌∷◌, subst, inl, inr}
use Rattle.pb_model_meaning.specs.Steps.{State}
use Rattle.pb_model_runs.specs.Runs.{Move, last_state}
use Rattle.pb_model_runs.proofs.RunsLemmas.{Along}
use Rattle.pb_model_fair_run_laws.specs.Once.{Once}

-- what each move keeps is so at the end
pub kept : (Good : State → Type 0) (G : State → Move → Type 0) → ((s : State) (x : Move) → G s x → Good s → Good x.state) → (s : State) (path : List Move) → Along G s path
    → Good s → Good (last_state s path)
kept Good G step s [] h good = good
kept Good G step s (x ∷ path) h good = kept Good G step x.state path h.1 (step s x h.0 good)

module _ (D : Type 0) (InSet : ℕ → State → Type 0) (Claims : D → ℕ → State → Type 0) (Breaks : D → State → Move → Type 0) (G : State → Move → Type 0) (none : (s : State) → InSet zero s → ⊥)
    (chosen : (n : ℕ) (s : State) → InSet (suc n) s → (d : D) × Claims d n s)
    (on : (d : D) (n : ℕ) (s : State) (x : Move) → G s x → Claims d n s → InSet n x.state ⊎ (Claims d n x.state × (Breaks d s x → ⊥))) where
  -- the states to which a path comes aren't in the n-th set
  abbrev Out : ℕ → State → List Move → Type 0
  Out n s path = Along (λ u x. InSet n x.state → ⊥) s path

  walk : (d : D) (n : ℕ) (s : State) (path : List Move) → Along G s path → Out n s path → Claims d n s → Claims d n (last_state s path) × (Once (Breaks d) s path → ⊥)
  walk d n s [] h out claims = (claims, λ once. once)
  walk d n s (x ∷ path) h out claims = elim (on d n s x h.0 claims) [
    | inl earlier ↦ absurd (out.0 earlier)
    | inr (next, unbroken) ↦
        let rest = walk d n x.state path h.1 out.1 next in
        (rest.0, λ once. elim once [ inl now ↦ unbroken now | inr later ↦ rest.1 later ])
  ]

  none-out : (s : State) (path : List Move) → Out zero s path
  none-out s [] = tt
  none-out s (x ∷ path) = (none x.state, none-out x.state path)

  module _ (t : State) (loop : List Move) (along : Along G t loop) (back : last_state t loop ≡ t) (broken : (d : D) → Once (Breaks d) t loop) where
    unclaimed : (d : D) (n : ℕ) → Out n t loop → Claims d n t → ⊥
    unclaimed d n out claims = (walk d n t loop along out claims).1 (broken d)

    -- from the end of the loop on
    out-later : (n : ℕ) → Out n t loop → (s : State) (path : List Move) → Along G s path → Out n s path → last_state s path ≡ t → Out (suc n) s path
    out-later n whole s [] h out e = tt
    out-later n whole s (x ∷ path) h out e = (
      λ inside.
          let claim = chosen n x.state inside in
          unclaimed claim.0 n whole (subst (λ (u : State). Claims claim.0 n u) e (walk claim.0 n x.state path h.1 out.1 claim.1).0),
      out-later n whole x.state path h.1 out.1 e,
    )

    all-out : (n : ℕ) → Out n t loop
    all-out zero = none-out t loop
    all-out (suc n) = out-later n (all-out n) t loop along (all-out n) back

    pub never : (d : D) (n : ℕ) → Claims d n t → ⊥
    never d n claims = unclaimed d n (all-out n) claims
