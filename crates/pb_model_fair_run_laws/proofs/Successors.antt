-- Where all successors by the steps of a set are in a set of states, and a step that leads out of it.
use Rattle.std.proofs.Common.{◌≡◌, ◌⊎◌, Bool, true, false, true≢false, if◌then◌else◌, refl, sym, ap, ◌∙◌, inl, inr}
use Rattle.std.specs.List.{list_any, list_all}
use Rattle.pb_model_meaning.specs.Syntax.{StepSet, Formula, Model}
use Rattle.pb_model_meaning.specs.Steps.{State, has_step, is_state, successors}
use Rattle.pb_model_meaning.specs.Satisfaction.{States, holds_at}
use Rattle.pb_model_runs.specs.Runs.{Move, IsMove}
use Rattle.pb_model_runs.specs.Inevitably.{CanLeave}
use Rattle.pb_model_runs.proofs.Elements.{each-holds, some-fails}
use Rattle.pb_model_runs.proofs.AlwaysLemmas.{led-successor, successor-led}

module _ (m : Model) where
  -- some step of the set can be taken
  abbrev pub able : StepSet → State → Bool
  able A s = list_any (holds_at m (Formula.Truth true) (λ u. true)) (successors m A s)

  abbrev pub inside : States → State → Bool
  inside S t = if is_state m t then S t else false

  -- each successor is within the ranges and in S
  abbrev pub all_in : StepSet → States → State → Bool
  all_in A S s = list_all (inside S) (successors m A s)

  -- a state of the model that is in S
  abbrev pub In : States → State → Type 0
  In S s = (is_state m s ≡ true) × (S s ≡ true)

  in-parts : (S : States) (t : State) → inside S t ≡ true → In S t
  in-parts S t e = by (is_state m t) refl e
    where
      by : (b : Bool) → is_state m t ≡ b → (if b then S t else false) ≡ true → In S t
      by true within e = (within, e)
      by false outside e = absurd (true≢false (sym e))

  pub there : (A : StepSet) (S : States) (s : State) (x : Move) → all_in A S s ≡ true → IsMove m s x → has_step A x.name ≡ true → In S x.state
  there A S s x all move named = in-parts S x.state (each-holds (inside S) (successors m A s) x.state all (led-successor m A s x move named))

  -- a step of A, within the ranges, that leads out of S
  pub record LeavesSet (A : StepSet) (S : States) (s : State) : Type 0 where
    pub x : Move
    pub move : IsMove m s x
    pub named : has_step A x.name ≡ true
    pub within : is_state m x.state ≡ true
    pub out : S x.state ≡ false

  pub leaves : (A : StepSet) (S : States) (s : State) → all_in A S s ≡ false → CanLeave m A s ⊎ LeavesSet A S s
  leaves A S s e =
      let one = some-fails (inside S) (successors m A s) e in
      let led = successor-led m A s one.0 one.1 in
      by led.0 led.1 led.2 (is_state m led.0.state) refl (ap (inside S) led.3 ∙ one.2)
    where
      by : (x : Move) → IsMove m s x → has_step A x.name ≡ true → (b : Bool) → is_state m x.state ≡ b → (if b then S x.state else false) ≡ false → CanLeave m A s ⊎ LeavesSet A S s
      by x move named true within out = inr (record { x = x; move = move; named = named; within = within; out = out })
      by x move named false outside out = inl (x, move, named, outside)
