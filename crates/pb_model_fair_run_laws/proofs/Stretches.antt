-- Where a state isn't in a greatest fixpoint `q || (c && [A] Y)`, there is a finite stretch: by the steps of A, without q, to where c is false, or to before a way out.
use Rattle.std.proofs.Common.{◌≡◌, ◌⊎◌, ℕ, zero, suc, false, true≢false, ◌&&◌, ◌||◌, List, [], ◌∷◌, sym, ◌∙◌, inl, inr}
use Rattle.std.proofs.lemmas.Bool.{or_parts}
use Rattle.pb_fixpoint.specs.declared.Sign.TheVariants.{Nu}
use Rattle.pb_fixpoint.specs.Solution.{iterate, start}
use Rattle.pb_model_meaning.specs.Syntax.{StepSet, Model}
use Rattle.pb_model_meaning.specs.Steps.{State}
use Rattle.pb_model_meaning.specs.Satisfaction.{States}
use Rattle.pb_model_runs.specs.Runs.{Move, last_state}
use Rattle.pb_model_runs.specs.Inevitably.{CanLeave}
use Rattle.pb_model_runs.proofs.InevitablyLemmas.{either-false}
use Rattle.pb_model_runs.proofs.RunsLemmas.{Along}
use Rattle.pb_model_fair_run_laws.proofs.Paths.{IsStep}
use Rattle.pb_model_fair_run_laws.proofs.Successors.{all_in, leaves}

module _ (m : Model) (A : StepSet) (q c : States) where
  pub record Stretch (s : State) : Type 0 where
    pub path : List Move
    pub along : Along (IsStep m A q) s path
    pub last : q (last_state s path) ≡ false
    pub ends : (c (last_state s path) ≡ false) ⊎ CanLeave m A (last_state s path)

  module _ (g : States → States) (operator : (U : States) (s : State) → g U s ≡ (q s || (c s && all_in m A U s))) where
    pub stretch : (n : ℕ) (s : State) → iterate n g (start Nu) s ≡ false → Stretch s
    stretch zero s e = absurd (true≢false e)
    stretch (suc n) s e =
        let U : States = iterate n g (start Nu) in
        let parts = or_parts (q s) (c s && all_in m A U s) (sym (operator U s) ∙ e) in
        elim (either-false (c s) (all_in m A U s) parts.1) [
          | inl fails ↦ record { path = []; along = tt; last = parts.0; ends = inl fails }
          | inr some ↦ elim (leaves m A U s some) [
            | inl out ↦ record { path = []; along = tt; last = parts.0; ends = inr out }
            | inr on ↦
                let rest = stretch n on.x.state on.out in
                record {
                  path = on.x ∷ rest.path;
                  along = (record { move = on.move; named = on.named; within = on.within; lacks = parts.0 }, rest.along);
                  last = rest.last;
                  ends = rest.ends;
                }
          ]
        ]
