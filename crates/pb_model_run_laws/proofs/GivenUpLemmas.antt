-- Where a isn't taken infinitely often, the inner fixpoint shows how it is put off, or a step to where the outer one ends.
use Rattle.std.proofs.Common.{◌≡◌, ℕ, zero, suc, Bool, true, false, true≢false, ◌&&◌, ◌||◌, if◌then◌else◌, List, [], ◌∷◌, ◌++◌, refl, sym, ap, ◌∙◌, inl, inr}
use Rattle.std.specs.List.{list_any, list_all}
use Rattle.std.proofs.Math.Path.{fun_ext}
use Rattle.std.proofs.lemmas.Bool.{and_parts, false_from_ne_true, or_left, or_right}
use Rattle.pb_fixpoint.specs.declared.Sign.TheVariants.{Mu, Nu}
use Rattle.pb_fixpoint.specs.Solution.{iterate, start}
use Rattle.pb_text_meaning.specs.Syntax.{Name, same_name}
use Rattle.pb_model_meaning.specs.Syntax.{StepSet, Formula, Model}
use Rattle.pb_model_meaning.specs.Steps.{State, has_step, is_state, state_count, successors}
use Rattle.pb_model_meaning.specs.Positive.{IsPositive}
use Rattle.pb_model_meaning.specs.Satisfaction.{States, Valuation, holds_at, satisfying, with_set}
use Rattle.pb_model_meaning.proofs.Fixpoints.{fixpoints_are_extreme}
use Rattle.pb_model_runs.specs.Runs.{Move, IsMove, IsRun, last_state}
use Rattle.pb_model_runs.specs.Always.{AreBy, IsWithout}
use Rattle.pb_model_runs.specs.Possibly.{StaysWithin}
use Rattle.pb_model_runs.proofs.Elements.{some-fails, either_true}
use Rattle.pb_model_runs.proofs.AlwaysLemmas.{chosen-set, successor-led}
use Rattle.pb_model_runs.proofs.InevitablyLemmas.{not-none}
use Rattle.pb_model_run_laws.specs.Counterexamples.{IsStopped, NeverMet}
use Rattle.pb_model_run_laws.specs.GivenUp.{IsLeftForEver, IsGivenUp, TrueNeverEnds, FalseIsGivenUp, GivenUpRefutes}
use Rattle.pb_model_run_laws.specs.InfinitelyOften.{infinitely_often_by}
use Rattle.pb_model_run_laws.specs.Until.{until_by}
use Rattle.pb_model_run_laws.specs.Waiting.{WaitsAlong}
use Rattle.pb_model_run_laws.proofs.CounterexampleLemmas.{false-never-met, never-met-refutes}
use Rattle.pb_model_run_laws.proofs.EndlessLassosLemmas.{loop-end}
use Rattle.pb_model_run_laws.proofs.InfinitelyOftenLemmas.{other-set}
use Rattle.pb_model_run_laws.proofs.InfinitelyOftenLemmas as often

-- ---- paths

by-either : (A B : StepSet) (path : List Move) → AreBy B path → AreBy (StepSet.Union A B) path
by-either A B [] h = tt
by-either A B (x ∷ path) h = (or_right (has_step A x.name) (has_step B x.name) h.0, by-either A B path h.1)

by-second : (A : StepSet) (xs ys : List Move) → AreBy A (xs ++ ys) → AreBy A ys
by-second A [] ys h = h
by-second A (x ∷ xs) ys h = by-second A xs ys h.1

run-second : (m : Model) (s : State) (xs ys : List Move) → IsRun m s (xs ++ ys) → IsRun m (last_state s xs) ys
run-second m s [] ys h = h
run-second m s (x ∷ xs) ys h = run-second m x.state xs ys h.1

within-second : (m : Model) (xs ys : List Move) → StaysWithin m (xs ++ ys) → StaysWithin m ys
within-second m [] ys h = h
within-second m (x ∷ xs) ys h = within-second m xs ys h.1

swapped : (a b d : Bool) → (a && (b && d)) ≡ (false || (b && (a && d)))
swapped true b d = refl
swapped false true d = refl
swapped false false d = refl

module _ (m : Model) (A B : StepSet) where
  -- ---- what is given up behind some moves

  abbrev Both : StepSet
  Both = StepSet.Union A B

  longer : (s : State) (x : Move) → IsMove m s x → has_step Both x.name ≡ true → is_state m x.state ≡ true → IsGivenUp m A B x.state → IsGivenUp m A B s
  longer s x move named within (inl l) =
      inl (record {
        stem = x ∷ l.stem;
        loop = l.loop;
        lasso = record { run = (move, l.lasso.run); back = l.lasso.back };
        goes_on = l.goes_on;
        by = (named, l.by);
        again = l.again;
        within = (within, l.within);
      })
  longer s x move named within (inr r) =
      inr (record { path = x ∷ r.path; run = (move, r.run); by = (named, r.by); within = (within, r.within); ends = r.ends })

  behind : (s : State) (path : List Move) → IsRun m s path → AreBy Both path → StaysWithin m path → IsGivenUp m A B (last_state s path) → IsGivenUp m A B s
  behind s [] run by within given = given
  behind s (x ∷ path) run by within given = longer s x run.0 by.0 within.0 (behind x.state path run.1 by.1 within.1 given)

  stopped : (t : State) → IsStopped m B t → IsGivenUp m A B t
  stopped t (inl none) = inr (record { path = []; run = tt; by = tt; within = tt; ends = inl none })
  stopped t (inr (x, move, named, outside)) =
      inr (record { path = []; run = tt; by = tt; within = tt; ends = inr (x, move, or_right (has_step A x.name) (has_step B x.name) named, outside) })

  module _ (ρ : Valuation) (X Y : Name) (apart : same_name Y X ≡ false) where
    -- the inner fixpoint, where X has a set, is one of until
    abbrev here : Formula
    here = Formula.Box A (Formula.Named X)

    abbrev body : Formula
    body =
        Formula.And (Formula.Diamond StepSet.All (Formula.Truth true)) (Formula.And (Formula.Box A (Formula.Named X)) (Formula.Box B (Formula.Named Y)))

    abbrev inner : Formula
    inner = Formula.Fixpoint Mu Y body

    abbrev waiting : Formula
    waiting = until_by B Y here (Formula.Truth false)

    abbrev at : States → Valuation
    at S = with_set ρ X S

    inner-waits : (S : States) (s : State) → satisfying m (at S) inner s ≡ satisfying m (at S) waiting s
    inner-waits S s =
        ap (λ (g : States → States). iterate (state_count m) g (start Mu) s)
        (fun_ext (λ U. fun_ext (λ t. swapped (list_any (holds_at m (Formula.Truth true) (λ u. true)) (successors m StepSet.All t))
        (list_all (holds_at m (Formula.Named X) (with_set (at S) Y U X)) (successors m A t))
        (list_all (holds_at m (Formula.Named Y) (with_set (at S) Y U Y)) (successors m B t)))))

    without : (S : States) → IsWithout m (at S) Y here
    without S U =
        let boxed : States → States = λ W s. list_all (holds_at m (Formula.Named X) W) (successors m A s) in
        ap boxed (other-set (same_name Y X) U (at S X) apart)

    positive : IsPositive waiting
    positive = ((tt, ((λ e. refl), (tt, λ e. refl))), (tt, (tt, (tt, tt))))

    -- a step of A to where the outer fixpoint ends
    ended : (S : States) (t : State) → satisfying m (at S) here t ≡ false → ((u : State) → is_state m u ≡ true → S u ≡ false → IsGivenUp m A B u) → IsGivenUp m A B t
    ended S t fails rest =
        let found = some-fails (holds_at m (Formula.Named X) (at S X)) (successors m A t) fails in
        let led = successor-led m A t found.0 found.1 in
        by led.0 led.1 (or_left (has_step A (led.0).name) (has_step B (led.0).name) led.2) (is_state m (led.0).state) refl
        (ap (λ (W : States). holds_at m (Formula.Named X) W (led.0).state) (sym (chosen-set ρ X S)) ∙ ap (holds_at m (Formula.Named X) (at S X)) led.3 ∙ found.2)
      where
        by : (x : Move) → IsMove m t x → has_step Both x.name ≡ true → (b : Bool) → is_state m x.state ≡ b → (if b then S x.state else false) ≡ false → IsGivenUp m A B t
        by x move named true within out = longer t x move named within (rest x.state within out)
        by x move named false outside out = inr (record { path = []; run = tt; by = tt; within = tt; ends = inr (x, move, named, outside) })

    after : (S : States) (s : State) → NeverMet m (at S) B here (Formula.Truth false) s → ((u : State) → is_state m u ≡ true → S u ≡ false → IsGivenUp m A B u) → IsGivenUp m A B s
    after S s (inl l) rest =
        inl (record {
          stem = l.stem;
          loop = l.loop;
          lasso = l.lasso;
          goes_on = l.goes_on;
          by = by-either A B (l.stem ++ l.loop) l.by;
          again = by-second B l.stem l.loop l.by;
          within = l.within;
        })
    after S s (inr k) rest =
        let t = last_state s k.path in
        behind s k.path k.run (by-either A B k.path k.by) k.within
        (elim k.ends [ inl fails ↦ ended S t fails rest | inr stops ↦ stopped t stops ])

    given-up : (n : ℕ) (s : State) → is_state m s ≡ true → iterate n (λ S. satisfying m (at S) inner) (start Nu) s ≡ false → IsGivenUp m A B s
    given-up zero s e h = absurd (true≢false h)
    given-up (suc n) s e h =
        let S : States = iterate n (λ S. satisfying m (at S) inner) (start Nu) in
        after S s
        (false-never-met m (at S) B Y here (Formula.Truth false) s (without S) (λ U. refl) positive e (sym (inner-waits S s) ∙ h))
        (λ u within out. given-up n u within out)

    -- ---- the way back

    abbrev T : States
    T = satisfying m ρ (infinitely_often_by A B X Y)

    inner-holds : (s : State) → is_state m s ≡ true → T s ≡ true → satisfying m (at T) inner s ≡ true
    inner-holds s e h = (fixpoints_are_extreme m ρ Nu X inner (often.positive m ρ A B X Y apart)).fixpoint s e ∙ h

    -- a step can be taken, and those of A and of B lead to where the formula is true
    record GoesOn (s : State) : Type 0 where
      going : list_any (holds_at m (Formula.Truth true) (λ u. true)) (successors m StepSet.All s) ≡ true
      first : list_all (holds_at m (Formula.Named X) T) (successors m A s) ≡ true
      next : (x : Move) → IsMove m s x → has_step Both x.name ≡ true → (is_state m x.state ≡ true) × (T x.state ≡ true)

    goes-on : (s : State) → is_state m s ≡ true → T s ≡ true → GoesOn s
    goes-on s e h =
        let M = satisfying m (at T) inner in
        let said = sym (often.step-said m ρ A B X Y apart M s) ∙ (fixpoints_are_extreme m (at T) Mu Y body (often.positive m ρ A B X Y apart).1).fixpoint s e ∙ inner-holds s e h in
        let parts = and_parts (list_any (holds_at m (Formula.Truth true) (λ u. true)) (successors m StepSet.All s))
        (list_all (holds_at m (Formula.Named X) T) (successors m A s) && list_all (holds_at m (Formula.Named X) M) (successors m B s)) said in
        let sets = and_parts (list_all (holds_at m (Formula.Named X) T) (successors m A s)) (list_all (holds_at m (Formula.Named X) M) (successors m B s)) parts.1 in
        record {
          going = parts.0;
          first = sets.0;
          next = λ x move named. elim (either_true (has_step A x.name) (has_step B x.name) named) [
            | inl a ↦ often.within m ρ A B X Y apart A T s x sets.0 move a
            | inr b ↦
                let there = often.within m ρ A B X Y apart B M s x sets.1 move b in
                (there.0, sym ((fixpoints_are_extreme m ρ Nu X inner (often.positive m ρ A B X Y apart)).fixpoint x.state there.0) ∙ there.1)
          ];
        }

    holds-on : (s : State) (path : List Move) → is_state m s ≡ true → T s ≡ true → IsRun m s path → AreBy Both path
        → (is_state m (last_state s path) ≡ true) × (T (last_state s path) ≡ true)
    holds-on s [] e h run by = (e, h)
    holds-on s (x ∷ path) e h run by = let next = (goes-on s e h).next x run.0 by.0 in holds-on x.state path next.0 next.1 run.1 by.1

    unstopped : (s : State) → is_state m s ≡ true → T s ≡ true → IsStopped m Both s → ⊥
    unstopped s e h (inl none) = not-none m (successors m StepSet.All s) (goes-on s e h).going none
    unstopped s e h (inr (x, move, named, outside)) = true≢false (sym ((goes-on s e h).next x move named).0 ∙ outside)

    waits-on : (s : State) (loop : List Move) → is_state m s ≡ true → T s ≡ true → IsRun m s loop → AreBy B loop → WaitsAlong m (at T) here (Formula.Truth false) s loop
    waits-on s [] e h run by = tt
    waits-on s (x ∷ loop) e h run by =
        let on = goes-on s e h in
        let next = on.next x run.0 (or_right (has_step A x.name) (has_step B x.name) by.0) in (
          ap (λ (W : States). list_all (holds_at m (Formula.Named X) W) (successors m A s)) (chosen-set ρ X T) ∙ on.first,
          refl,
          waits-on x.state loop next.0 next.1 run.1 by.1,
        )

    unrounded : (s : State) → is_state m s ≡ true → T s ≡ true → IsLeftForEver m A B s → ⊥
    unrounded s e h l =
        let t = last_state s l.stem in
        let run = run-second m s l.stem l.loop l.lasso.run in
        let there = holds-on s l.stem e h (run-stem s l.stem l.lasso.run) (by-stem l.stem l.by) in
        let out = never-met-refutes m (at T) B Y here (Formula.Truth false) t (without T) (λ U. refl)
        (inl (record {
          stem = [];
          loop = l.loop;
          lasso = record { run = run; back = sym (loop-end m A s l.stem l.loop) ∙ l.lasso.back };
          goes_on = l.goes_on;
          by = l.again;
          within = within-second m l.stem l.loop l.within;
          waits = waits-on t l.loop there.0 there.1 run l.again;
        })) in
        true≢false (sym (sym (inner-waits T t) ∙ inner-holds t there.0 there.1) ∙ out)
      where
        run-stem : (s : State) (stem : List Move) → IsRun m s (stem ++ l.loop) → IsRun m s stem
        run-stem s [] h = tt
        run-stem s (x ∷ stem) h = (h.0, run-stem x.state stem h.1)

        by-stem : (stem : List Move) → AreBy Both (stem ++ l.loop) → AreBy Both stem
        by-stem [] h = tt
        by-stem (x ∷ stem) h = (h.0, by-stem stem h.1)

pub true-never-ends : TrueNeverEnds
true-never-ends m ρ A B X Y s path apart e h run by =
    let there = holds-on m A B ρ X Y apart s path e h run by in
    (there.0, unstopped m A B ρ X Y apart (last_state s path) there.0 there.1)

pub false-is-given-up : FalseIsGivenUp
false-is-given-up m ρ A B X Y s apart e h = given-up m A B ρ X Y apart (state_count m) s e h

pub given-up-refutes : GivenUpRefutes
given-up-refutes m ρ A B X Y s apart e (inl l) =
    false_from_ne_true (satisfying m ρ (infinitely_often_by A B X Y) s) (λ h. unrounded m A B ρ X Y apart s e h l)
given-up-refutes m ρ A B X Y s apart e (inr r) =
    false_from_ne_true (satisfying m ρ (infinitely_often_by A B X Y) s)
    (λ h. let there = holds-on m A B ρ X Y apart s r.path e h r.run r.by in unstopped m A B ρ X Y apart (last_state s r.path) there.0 there.1 r.ends)
