-- Where steps lead, and runs that go round.
use Rattle.std.proofs.Common.{◌≡◌, ℕ, zero, suc, ◌≤◌, ◌<◌, arith, List, [], ◌∷◌, ◌++◌, length, refl, sym, ◌∙◌, subst}
use Rattle.std.specs.Prelude.{⊤, Contains}
use Rattle.std.proofs.lemmas.List.{length-append}
use Rattle.pb_base_values.specs.Carrier.{tuples}
use Rattle.pb_text_meaning.specs.Formula.{carriers_of}
use Rattle.pb_model_meaning.specs.Syntax.{Model}
use Rattle.pb_model_meaning.specs.Steps.{State, data_of, is_enabled, next_state, successors_by}
use Rattle.pb_model_runs.specs.Runs.{Move, IsMove, IsRun, last_state, rounds, StepsLeadToSuccessors, LassosGoRound}
use Rattle.pb_model_runs.proofs.Elements.{mapped, passing}

pub steps-lead-to-successors : StepsLeadToSuccessors
steps-lead-to-successors m s a own after h =
    subst (λ (t : State). Contains (successors_by m s a) t) h.next
    (mapped (next_state m s a) _ own (passing (is_enabled m s a) (tuples (carriers_of (data_of m) a.variables)) own h.values h.enabled))

-- ---- moves one behind the other

-- what holds of each move, and of the state before it
module _ (G : State → Move → Type 0) where
  abbrev pub Along : State → List Move → Type 0
  Along s [] = ⊤
  Along s (x ∷ path) = G s x × Along x.state path

  first-along : (s : State) (xs ys : List Move) → Along s (xs ++ ys) → Along s xs
  first-along s [] ys h = tt
  first-along s (x ∷ xs) ys h = (h.0, first-along x.state xs ys h.1)

  second-along : (s : State) (xs ys : List Move) → Along s (xs ++ ys) → Along (last_state s xs) ys
  second-along s [] ys h = h
  second-along s (x ∷ xs) ys h = second-along x.state xs ys h.1

  joined-along : (s : State) (xs ys : List Move) → Along s xs → Along (last_state s xs) ys → Along s (xs ++ ys)
  joined-along s [] ys h k = k
  joined-along s (x ∷ xs) ys h k = (h.0, joined-along x.state xs ys h.1 k)

  joined-end : (s : State) (xs ys : List Move) → last_state s (xs ++ ys) ≡ last_state (last_state s xs) ys
  joined-end s [] ys = refl
  joined-end s (x ∷ xs) ys = joined-end x.state xs ys

  -- from where a loop comes back to, it can be gone round
  round-along : (s : State) (loop : List Move) → Along s loop → last_state s loop ≡ s → (n : ℕ) → Along s (rounds n loop)
  round-along s loop h back zero = tt
  round-along s loop h back (suc n) =
      joined-along s loop (rounds n loop) h (subst (λ (t : State). Along t (rounds n loop)) (sym back) (round-along s loop h back n))

  pub lasso-along : (s : State) (stem loop : List Move) → Along s (stem ++ loop) → last_state s (stem ++ loop) ≡ last_state s stem → (n : ℕ) → Along s (stem ++ rounds n loop)
  lasso-along s stem loop h back n =
      let again : last_state (last_state s stem) loop ≡ last_state s stem = sym (joined-end s stem loop) ∙ back in
      joined-along s stem (rounds n loop) (first-along s stem loop h)
      (round-along (last_state s stem) loop (second-along s stem loop h) again n)

of-run : (m : Model) (s : State) (path : List Move) → IsRun m s path → Along (IsMove m) s path
of-run m s [] h = tt
of-run m s (x ∷ path) h = (h.0, of-run m x.state path h.1)

to-run : (m : Model) (s : State) (path : List Move) → Along (IsMove m) s path → IsRun m s path
to-run m s [] h = tt
to-run m s (x ∷ path) h = (h.0, to-run m x.state path h.1)

pub lassos-go-round : LassosGoRound
lassos-go-round m s stem loop h n =
    to-run m s (stem ++ rounds n loop) (lasso-along (IsMove m) s stem loop (of-run m s (stem ++ loop) h.run) h.back n)

-- a loop with a move in it is as long as one wants
pub rounds-length : (loop : List Move) → 0 < length loop → (n : ℕ) → n ≤ length (rounds n loop)
rounds-length loop e zero = omega arith
rounds-length loop e (suc n) =
    let rest = rounds-length loop e n in
    let sum = length-append loop (rounds n loop) in
    omega (arith, e, rest, sum)

pub longer-behind : (stem path : List Move) → length path ≤ length (stem ++ path)
longer-behind stem path = let sum = length-append stem path in omega (arith, sum)
