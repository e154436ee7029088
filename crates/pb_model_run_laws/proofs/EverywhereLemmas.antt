-- The order of a conjunction doesn't matter in a greatest fixpoint; and which runs lead out of reach.
use Rattle.std.proofs.Common.{◌≡◌, ◌⊎◌, Bool, true, false, true≢false, not, ◌&&◌, ◌||◌, List, refl, sym, ◌∙◌, inl, inr}
use Rattle.pb_fixpoint.specs.declared.Sign.TheVariants.{Nu}
use Rattle.pb_fixpoint.specs.Solution.{start}
use Rattle.pb_text_meaning.specs.Syntax.{Name, same_name}
use Rattle.pb_model_meaning.specs.Syntax.{StepSet, Formula, Model}
use Rattle.pb_model_meaning.specs.Steps.{State, is_state, state_count}
use Rattle.pb_model_meaning.specs.Positive.{IsPositive}
use Rattle.pb_model_meaning.specs.Satisfaction.{States, Valuation, satisfying, with_set}
use Rattle.pb_model_meaning.proofs.Same.{Agree, iterate-same, satisfying-same, with_set-same}
use Rattle.pb_model_runs.specs.Runs.{Move, IsRun, last_state}
use Rattle.pb_model_runs.specs.Always.{always_by, AreBy, IsWithout, IsViolated}
use Rattle.pb_model_runs.specs.Possibly.{possibly_by, IsReached}
use Rattle.pb_model_runs.proofs.AlwaysLemmas.{false-has-run, true-holds-on-runs}
use Rattle.pb_model_runs.proofs.PossiblyLemmas.{true-has-run, runs-make-true}
use Rattle.pb_model_run_laws.specs.Free.{is_free}
use Rattle.pb_model_run_laws.specs.Everywhere.{everywhere_by, EverywhereIsAlways, FalseIsOutOfReach, TrueIsWithinReach}
use Rattle.pb_model_run_laws.proofs.FreeLemmas.{not-free-is-without}

and-swapped : (b d : Bool) → (b && d) ≡ (d && b)
and-swapped true true = refl
and-swapped true false = refl
and-swapped false true = refl
and-swapped false false = refl

module _ (m : Model) (ρ : Valuation) (A : StepSet) (X : Name) (f : Formula) where
  abbrev box : Formula
  box = Formula.Box A (Formula.Named X)

  abbrev body : Formula
  body = Formula.And box f

  -- on equal sets, the one order makes the same of them as the other
  step-swapped : (S T : States) → Agree m S T → Agree m (satisfying m (with_set ρ X S) body) (satisfying m (with_set ρ X T) (Formula.And f box))
  step-swapped S T same = λ s e.
      satisfying-same m body (with_set ρ X S) (with_set ρ X T) (with_set-same m ρ ρ (λ Y t k. refl) X S T same) s e
      ∙ and-swapped (satisfying m (with_set ρ X T) box s) (satisfying m (with_set ρ X T) f s)

  swapped : (s : State) → is_state m s ≡ true → satisfying m ρ (everywhere_by A X f) s ≡ satisfying m ρ (always_by A X f) s
  swapped s e =
      iterate-same m (λ S. satisfying m (with_set ρ X S) body) (λ S. satisfying m (with_set ρ X S) (Formula.And f box)) step-swapped (state_count m) (start Nu) s e

  turned : IsPositive (everywhere_by A X f) → IsPositive (always_by A X f)
  turned ((a, b), (c, d)) = ((b, a), (d, c))

  pub violated-somewhere : IsWithout m ρ X f → (s : State) → is_state m s ≡ true → satisfying m ρ (everywhere_by A X f) s ≡ false → IsViolated m ρ A f s
  violated-somewhere without s within e = false-has-run m ρ A X f s without (sym (swapped s within) ∙ e)

  pub holds-everywhere : IsWithout m ρ X f → IsPositive (everywhere_by A X f) → (s : State) → is_state m s ≡ true → satisfying m ρ (everywhere_by A X f) s ≡ true
      → (path : List Move) → IsRun m s path → AreBy A path → (is_state m (last_state s path) ≡ true) × (satisfying m ρ f (last_state s path) ≡ true)
  holds-everywhere without positive s within e = true-holds-on-runs m ρ A X f s without (turned positive) within (sym (swapped s within) ∙ e)

pub everywhere-is-always : EverywhereIsAlways
everywhere-is-always m ρ A X f s within = swapped m ρ A X f s within

-- ---- within reach

-- what isn't free in a body isn't in its fixpoint
pub bound-under : (own free : Bool) → free ≡ false → (not own && (free || own)) ≡ false
bound-under true true e = refl
bound-under false true e = e
bound-under true false e = refl
bound-under false false e = refl

module _ (m : Model) (ρ : Valuation) (A B : StepSet) (X Y : Name) (p : Formula) (bound_x : is_free X p ≡ false) (bound_y : is_free Y p ≡ false) where
  abbrev reached : Formula
  reached = possibly_by B Y p

  without-x : IsWithout m ρ X reached
  without-x = not-free-is-without m ρ X reached (bound-under (same_name Y X) (is_free X p) bound_x)

  without-y : IsWithout m ρ Y p
  without-y = not-free-is-without m ρ Y p bound_y

  inner : IsPositive (everywhere_by A X reached) → IsPositive reached
  inner ((a, b), (c, d)) = d

  unreached : IsPositive (everywhere_by A X reached) → (t : State) → (is_state m t ≡ false) ⊎ (satisfying m ρ reached t ≡ false) → (is_state m t ≡ false) ⊎ ¬ IsReached m ρ B p t
  unreached positive t ends = by (is_state m t) refl ends
    where
      by : (b : Bool) → is_state m t ≡ b → (is_state m t ≡ false) ⊎ (satisfying m ρ reached t ≡ false) → (is_state m t ≡ false) ⊎ ¬ IsReached m ρ B p t
      by false outside ends = inl outside
      by true within (inl outside) = inl outside
      by true within (inr fails) = inr (λ r. true≢false (sym (runs-make-true m ρ B Y p t without-y (inner positive) within r) ∙ fails))

pub false-is-out-of-reach : FalseIsOutOfReach
false-is-out-of-reach m ρ A B X Y p s bound_x bound_y positive within e =
    let v = violated-somewhere m ρ A X (possibly_by B Y p) (without-x m ρ A B X Y p bound_x bound_y) s within e in
    record { path = v.path; run = v.run; by = v.by; ends = unreached m ρ A B X Y p bound_x bound_y positive (last_state s v.path) v.ends }

pub true-is-within-reach : TrueIsWithinReach
true-is-within-reach m ρ A B X Y p s bound_x bound_y positive within e v =
    let held = holds-everywhere m ρ A X (possibly_by B Y p) (without-x m ρ A B X Y p bound_x bound_y) positive s within e v.path v.run v.by in
    let there = true-has-run m ρ B Y p (last_state s v.path) (without-y m ρ A B X Y p bound_x bound_y) held.1 in
    elim v.ends [ inl outside ↦ true≢false (sym held.0 ∙ outside) | inr none ↦ none there ]
