-- Paths one after another, and what is so of each of their moves.
use Rattle.std.proofs.Common.{◌≡◌, true, false, List, [], ◌∷◌, ◌++◌, refl, sym, subst, inl, inr}
use Rattle.pb_model_meaning.specs.Syntax.{StepSet, Formula, Model}
use Rattle.pb_model_meaning.specs.Steps.{State, has_step, is_state}
use Rattle.pb_model_meaning.specs.Satisfaction.{States, Valuation, satisfying}
use Rattle.pb_model_runs.specs.Runs.{Move, IsMove, IsRun, last_state}
use Rattle.pb_model_runs.specs.Always.{AreBy}
use Rattle.pb_model_runs.specs.Possibly.{StaysWithin}
use Rattle.pb_model_runs.specs.Inevitably.{FailsAlong}
use Rattle.pb_model_runs.proofs.RunsLemmas.{Along}
use Rattle.pb_model_fair_run_laws.specs.Once.{Once}

module _ (G : State → Move → Type 0) where
  pub parted : (s : State) (xs ys : List Move) → Along G s (xs ++ ys) → Along G s xs × Along G (last_state s xs) ys
  parted s [] ys h = (tt, h)
  parted s (x ∷ xs) ys h = let rest = parted x.state xs ys h.1 in ((h.0, rest.0), rest.1)

  pub joined : (s t : State) (xs ys : List Move) → Along G s xs → last_state s xs ≡ t → Along G t ys → Along G s (xs ++ ys)
  joined s t [] ys h e k = subst (λ (u : State). Along G u ys) (sym e) k
  joined s t (x ∷ xs) ys h e k = (h.0, joined x.state t xs ys h.1 e k)

  pub once-first : (s : State) (xs ys : List Move) → Once G s xs → Once G s (xs ++ ys)
  once-first s [] ys h = absurd h
  once-first s (x ∷ xs) ys h = elim h [ inl now ↦ inl now | inr later ↦ inr (once-first x.state xs ys later) ]

  pub once-second : (s : State) (xs ys : List Move) → Once G (last_state s xs) ys → Once G s (xs ++ ys)
  once-second s [] ys h = h
  once-second s (x ∷ xs) ys h = inr (once-second x.state xs ys h)

pub end-of : (s t : State) (xs ys : List Move) → last_state s xs ≡ t → last_state s (xs ++ ys) ≡ last_state t ys
end-of s t [] ys e = ap-last e
  where
    ap-last : s ≡ t → last_state s ys ≡ last_state t ys
    ap-last e = subst (λ (u : State). last_state s ys ≡ last_state u ys) e refl
end-of s t (x ∷ xs) ys e = end-of x.state t xs ys e

module _ (m : Model) (A : StepSet) (q : States) where
  -- a move by a step of A from a state without q, within the ranges
  pub record IsStep (s : State) (x : Move) : Type 0 where
    pub move : IsMove m s x
    pub named : has_step A x.name ≡ true
    pub within : is_state m x.state ≡ true
    pub lacks : q s ≡ false

  pub run-of : (s : State) (path : List Move) → Along IsStep s path → IsRun m s path
  run-of s [] h = tt
  run-of s (x ∷ path) h = (h.0.move, run-of x.state path h.1)

  pub by-of : (s : State) (path : List Move) → Along IsStep s path → AreBy A path
  by-of s [] h = tt
  by-of s (x ∷ path) h = (h.0.named, by-of x.state path h.1)

  pub within-of : (s : State) (path : List Move) → Along IsStep s path → StaysWithin m path
  within-of s [] h = tt
  within-of s (x ∷ path) h = (h.0.within, within-of x.state path h.1)

module _ (m : Model) (A : StepSet) where
  -- of a run it is so for any q that is false before each move
  pub steps-of : (s : State) (path : List Move) → IsRun m s path → AreBy A path → StaysWithin m path → Along (IsStep m A (λ t. false)) s path
  steps-of s [] run by within = tt
  steps-of s (x ∷ path) run by within =
      (record { move = run.0; named = by.0; within = within.0; lacks = refl }, steps-of x.state path run.1 by.1 within.1)

module _ (m : Model) (ρ : Valuation) (p : Formula) where
  pub fails-of : (s : State) (path : List Move) → Along (IsStep m StepSet.All (satisfying m ρ p)) s path → satisfying m ρ p (last_state s path) ≡ false → FailsAlong m ρ p s path
  fails-of s [] h e = e
  fails-of s (x ∷ path) h e = (h.0.lacks, fails-of x.state path h.1 e)

  pub failing-steps-of : (s : State) (path : List Move) → IsRun m s path → StaysWithin m path → FailsAlong m ρ p s path → Along (IsStep m StepSet.All (satisfying m ρ p)) s path
  failing-steps-of s [] run within fails = tt
  failing-steps-of s (x ∷ path) run within fails =
      (record { move = run.0; named = refl; within = within.0; lacks = fails.0 }, failing-steps-of x.state path run.1 within.1 fails.1)

  pub fails-at-end : (s : State) (path : List Move) → FailsAlong m ρ p s path → satisfying m ρ p (last_state s path) ≡ false
  fails-at-end s [] h = h
  fails-at-end s (x ∷ path) h = fails-at-end x.state path h.1

-- each move is one of any step
pub by-any : (path : List Move) → AreBy StepSet.All path
by-any [] = tt
by-any (x ∷ path) = (refl, by-any path)
