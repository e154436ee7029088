-- Where persistence is false, the inner fixpoint gives a stretch to a state without p, from which a step leads to where it is false again.
use Rattle.std.proofs.Common.{◌≡◌, ◌⊎◌, ℕ, zero, suc, arith, true, false, true≢false, ◌&&◌, ◌||◌, List, [], ◌∷◌, ◌++◌, refl, sym, ap, ◌∙◌, subst, inl, inr}
use Rattle.std.proofs.Math.Bool.{or_comm}
use Rattle.std.proofs.lemmas.List.{length-append}
use Rattle.std.proofs.lemmas.Bool.{and_parts, false_from_ne_true}
use Rattle.pb_fixpoint.specs.declared.Sign.TheVariants.{Mu, Nu}
use Rattle.pb_fixpoint.specs.Solution.{iterate, start}
use Rattle.pb_text_meaning.specs.Syntax.{Name, same_name}
use Rattle.pb_model_meaning.specs.Syntax.{StepSet, Formula, Model}
use Rattle.pb_model_meaning.specs.Steps.{State, has_step, is_state, state_count, successors}
use Rattle.pb_model_meaning.specs.Positive.{IsPositive}
use Rattle.pb_model_meaning.specs.Satisfaction.{States, Valuation, satisfying, with_set}
use Rattle.pb_model_meaning.proofs.Fixpoints.{fixpoints_are_extreme}
use Rattle.pb_model_runs.specs.Runs.{Move, IsMove, last_state}
use Rattle.pb_model_runs.specs.Inevitably.{CanLeave}
use Rattle.pb_model_runs.proofs.AlwaysLemmas.{chosen-set}
use Rattle.pb_model_runs.proofs.Elements.{either_true}
use Rattle.pb_model_runs.proofs.InevitablyLemmas.{either-false, none-there, not-none}
use Rattle.pb_model_runs.proofs.RunsLemmas.{Along}
use Rattle.pb_model_run_laws.specs.Counterexamples.{LongRunsComeBack}
use Rattle.pb_model_run_laws.specs.Free.{is_free, NotFreeIsWithout}
use Rattle.pb_model_run_laws.specs.Persistence.{persistence_by}
use Rattle.pb_model_fair_run_laws.specs.LeadsOut.{LeadsOut}
use Rattle.pb_model_fair_run_laws.specs.Once.{Once}
use Rattle.pb_model_fair_run_laws.specs.Unsettled.{NeverSettles, FalseNeverSettles, NeverSettlesRefutes}
use Rattle.pb_model_fair_run_laws.proofs.Loops.{kept, never}
use Rattle.pb_model_fair_run_laws.proofs.Paths.{IsStep, joined, parted, once-first, once-second, end-of, run-of, by-of, within-of, steps-of}
use Rattle.pb_model_fair_run_laws.proofs.Rounds.{Round, end-or-circle}
use Rattle.pb_model_fair_run_laws.proofs.Stretches.{stretch}
use Rattle.pb_model_fair_run_laws.proofs.Successors.{able, all_in, In, leaves, there}
use Rattle.pb_model_fair_run_laws.proofs.Valuations.{with-other}

module _ (m : Model) (ρ : Valuation) (A : StepSet) (X Y : Name) (p : Formula) (without : NotFreeIsWithout) (apart : same_name Y X ≡ false) (bound_x : is_free X p ≡ false)
    (bound_y : is_free Y p ≡ false) (positive : IsPositive (persistence_by A X Y p)) where
  abbrev body : Formula
  body =
      Formula.Or (Formula.And p (Formula.Box A (Formula.Named Y))) (Formula.And (Formula.Diamond StepSet.All (Formula.Truth true)) (Formula.Box A (Formula.Named X)))

  -- where X is S and Y is U
  abbrev g : States → States → States
  g S U = satisfying m (with_set (with_set ρ X S) Y U) body

  -- the greatest fixpoint, where X is S
  abbrev inner : States → States
  inner S = iterate (state_count m) (g S) (start Nu)

  abbrev T : States
  T = satisfying m ρ (persistence_by A X Y p)

  operator : (S U : States) (s : State) → g S U s ≡ ((satisfying m ρ p s && all_in m A U s) || (able m StepSet.All s && all_in m A S s))
  operator S U s =
      let τ : Valuation = with_set (with_set ρ X S) Y U in
      let same = without m (with_set ρ X S) Y p bound_y U ∙ without m ρ X p bound_x S in
      let outer = with-other (with_set ρ X S) Y X U apart ∙ chosen-set ρ X S in
      ap (λ (F : States). (F s && all_in m A (τ Y) s) || (able m StepSet.All s && all_in m A (τ X) s)) same
      ∙ ap (λ (W : States). (satisfying m ρ p s && all_in m A W s) || (able m StepSet.All s && all_in m A (τ X) s)) (chosen-set (with_set ρ X S) Y U)
      ∙ ap (λ (W : States). (satisfying m ρ p s && all_in m A U s) || (able m StepSet.All s && all_in m A W s)) outer

  fixed : (s : State) → is_state m s ≡ true → inner T s ≡ T s
  fixed s e = (fixpoints_are_extreme m ρ Mu X (Formula.Fixpoint Nu Y body) positive).fixpoint s e

  within-parts : IsPositive (persistence_by A X Y p) → IsPositive (Formula.Fixpoint Nu Y body)
  within-parts (a, b) = b

  inner-fixed : (S : States) (s : State) → is_state m s ≡ true → ((satisfying m ρ p s && all_in m A (inner S) s) || (able m StepSet.All s && all_in m A S s)) ≡ inner S s
  inner-fixed S s e = sym (operator S (inner S) s) ∙ (fixpoints_are_extreme m (with_set ρ X S) Nu Y body (within-parts positive)).fixpoint s e

  -- ---- where it is false

  -- it can't be left to the outer fixpoint
  abbrev q : States
  q s = able m StepSet.All s && all_in m A T s

  abbrev G : State → Move → Type 0
  G = IsStep m A q

  abbrev Fails : State → Move → Type 0
  Fails t x = satisfying m ρ p t ≡ false

  abbrev End : State → Type 0
  End s = NeverSettles m ρ A p s

  abbrev Kind : State → Type 0
  Kind s = (is_state m s ≡ true) × (T s ≡ false)

  abbrev OneFails : State → List Move → Type 0
  OneFails s path = Once Fails s path

  one-fails-more : (s : State) (xs ys : List Move) → OneFails s xs → OneFails s (xs ++ ys)
  one-fails-more s xs ys h = once-first Fails s xs ys h

  leads-out : (s : State) (path : List Move) → Along G s path → CanLeave m A (last_state s path) → LeadsOut m A s
  leads-out s path h leave = record { path = path; run = run-of m A q s path h; by = by-of m A q s path h; within = within-of m A q s path h; leaves = leave }

  prefixed : (s : State) (path : List Move) → Along G s path → End (last_state s path) → End s
  prefixed s [] h end = end
  prefixed s (x ∷ path) h end = longer (prefixed x.state path h.1 end)
    where
      longer : End x.state → End s
      longer (inl l) =
          inl (record {
            stem = x ∷ l.stem;
            loop = l.loop;
            lasso = record { run = (h.0.move, l.lasso.run); back = l.lasso.back };
            by = (h.0.named, l.by);
            within = (h.0.within, l.within);
            fails = l.fails;
          })
      longer (inr (inl r)) =
          inr (inl (record { path = x ∷ r.path; run = (h.0.move, r.run); by = (h.0.named, r.by); within = (h.0.within, r.within); fails = r.fails; ends = r.ends }))
      longer (inr (inr r)) =
          inr (inr (record { path = x ∷ r.path; run = (h.0.move, r.run); by = (h.0.named, r.by); within = (h.0.within, r.within); leaves = r.leaves }))

  abbrev Next : State → Type 0
  Next s = End s ⊎ Round m G OneFails one-fails-more Kind End (λ s k. k.0) prefixed s

  next : (s : State) → Kind s → Next s
  next s k =
      let way = stretch m A q (satisfying m ρ p) (g T) (λ U t. operator T U t ∙ or_comm (satisfying m ρ p t && all_in m A U t) (q t)) (state_count m) s (fixed s k.0 ∙ k.1) in
      let t = last_state s way.path in
      elim way.ends [
        | inr leave ↦ inl (inr (inr (leads-out s way.path way.along leave)))
        | inl fails ↦ elim (either-false (able m StepSet.All t) (all_in m A T t) way.last) [
          | inl stuck ↦
              inl (inr (inl (record {
                path = way.path;
                run = run-of m A q s way.path way.along;
                by = by-of m A q s way.path way.along;
                within = within-of m A q s way.path way.along;
                fails = fails;
                ends = none-there m (successors m StepSet.All t) stuck;
              })))
          | inr some ↦ elim (leaves m A T t some) [
            | inl leave ↦ inl (inr (inr (leads-out s way.path way.along leave)))
            | inr on ↦
                let one : Along G t (on.x ∷ []) = (record { move = on.move; named = on.named; within = on.within; lacks = way.last }, tt) in
                let end = end-of s t way.path (on.x ∷ []) refl in
                let sum = length-append way.path (on.x ∷ []) in
                inr (record {
                  path = way.path ++ (on.x ∷ []);
                  along = joined G s t way.path (on.x ∷ []) way.along refl one;
                  goes_on = omega (arith, sum);
                  does = once-second Fails s way.path (on.x ∷ []) (inl fails);
                  kind = subst (λ (u : State). Kind u) (sym end) (on.within, on.out);
                })
          ]
        ]
      ]

  counterexample : LongRunsComeBack → (s : State) → is_state m s ≡ true → T s ≡ false → End s
  counterexample come-back s e h = elim (end-or-circle m G OneFails one-fails-more Kind End (λ s k. k.0) prefixed next come-back s (e, h)) [
    | inl end ↦ end
    | inr c ↦
        inl (record {
          stem = c.stem;
          loop = c.loop;
          lasso = record { run = run-of m A q s (c.stem ++ c.loop) c.along; back = c.back };
          by = by-of m A q s (c.stem ++ c.loop) c.along;
          within = within-of m A q s (c.stem ++ c.loop) c.along;
          fails = c.does;
        })
  ]

  -- ---- where it is true

  abbrev holds : ℕ → States
  holds n = iterate n inner (start Mu)

  -- p stays, or it is left to the set of X
  on : (S : States) (s : State) (x : Move) → IsMove m s x → has_step A x.name ≡ true → In m (inner S) s → In m S x.state ⊎ (In m (inner S) x.state × (satisfying m ρ p s ≡ false → ⊥))
  on S s x move named here =
      elim (either_true (satisfying m ρ p s && all_in m A (inner S) s) (able m StepSet.All s && all_in m A S s) (inner-fixed S s here.0 ∙ here.1)) [
        | inl stays ↦
            let parts = and_parts (satisfying m ρ p s) (all_in m A (inner S) s) stays in
            inr (there m A (inner S) s x parts.1 move named, λ fails. true≢false (sym parts.0 ∙ fails))
        | inr left ↦ let parts = and_parts (able m StepSet.All s) (all_in m A S s) left in inl (there m A S s x parts.1 move named)
      ]

  step : (s : State) (x : Move) → IsMove m s x → has_step A x.name ≡ true → In m T s → In m T x.state
  step s x move named here =
      elim (on T s x move named (here.0, fixed s here.0 ∙ here.1)) [ inl left ↦ left | inr (stays, holds) ↦ (stays.0, sym (fixed x.state stays.0) ∙ stays.1) ]

  unleft : (s : State) → In m T s → CanLeave m A s → ⊥
  unleft s here (x, move, named, outside) = true≢false (sym (step s x move named here).0 ∙ outside)

  unstuck : (s : State) → In m T s → satisfying m ρ p s ≡ false → successors m StepSet.All s ≡ [] → ⊥
  unstuck s here fails none =
      elim (either_true (satisfying m ρ p s && all_in m A (inner T) s) (able m StepSet.All s && all_in m A T s) (inner-fixed T s here.0 ∙ fixed s here.0 ∙ here.1)) [
        | inl stays ↦ true≢false (sym (and_parts (satisfying m ρ p s) (all_in m A (inner T) s) stays).0 ∙ fails)
        | inr left ↦ not-none m (successors m StepSet.All s) (and_parts (able m StepSet.All s) (all_in m A T s) left).0 none
      ]

  abbrev Plain : State → Move → Type 0
  Plain = IsStep m A (λ t. false)

  at-end : (s : State) (path : List Move) → Along Plain s path → In m T s → In m T (last_state s path)
  at-end s path h here = kept (λ t. In m T t) Plain (λ t x taken good. step t x taken.move taken.named good) s path h here

  unlooped : (t : State) (loop : List Move) → Along Plain t loop → last_state t loop ≡ t → Once Fails t loop → In m T t → ⊥
  unlooped t loop h back once here =
      never (Unit {0}) (λ n u. In m (holds n) u) (λ d n u. In m (inner (holds n)) u) (λ d u x. Fails u x) Plain (λ u here. true≢false (sym here.1)) (λ n u here. (tt, here))
      (λ d n u x taken claims. on (holds n) u x taken.move taken.named claims) t loop h back (λ d. once) tt (state_count m) (here.0, fixed t here.0 ∙ here.1)

  refuted : (s : State) → In m T s → NeverSettles m ρ A p s → ⊥
  refuted s here (inl l) =
      let parts = parted Plain s l.stem l.loop (steps-of m A s (l.stem ++ l.loop) l.lasso.run l.by l.within) in
      unlooped (last_state s l.stem) l.loop parts.1 (sym (end-of s (last_state s l.stem) l.stem l.loop refl) ∙ l.lasso.back) l.fails (at-end s l.stem parts.0 here)
  refuted s here (inr (inl r)) = unstuck (last_state s r.path) (at-end s r.path (steps-of m A s r.path r.run r.by r.within) here) r.fails r.ends
  refuted s here (inr (inr r)) = unleft (last_state s r.path) (at-end s r.path (steps-of m A s r.path r.run r.by r.within) here) r.leaves

pub false-never-settles : LongRunsComeBack → NotFreeIsWithout → FalseNeverSettles
false-never-settles come-back without m ρ A X Y p s apart bound_x bound_y positive e h = counterexample m ρ A X Y p without apart bound_x bound_y positive come-back s e h

pub never-settles-refutes : NotFreeIsWithout → NeverSettlesRefutes
never-settles-refutes without m ρ A X Y p s apart bound_x bound_y positive e one =
    false_from_ne_true (satisfying m ρ (persistence_by A X Y p) s) (λ h. refuted m ρ A X Y p without apart bound_x bound_y positive s (e, h) one)
