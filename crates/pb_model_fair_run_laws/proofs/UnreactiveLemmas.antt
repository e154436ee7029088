-- Where reactivity is false, the fixpoints within give rounds of steps of B and of C, with one of B, or a step of A to where the outermost one ends.
use Rattle.std.proofs.Common.{◌≡◌, ◌⊎◌, ℕ, zero, suc, arith, Bool, true, false, true≢false, ◌&&◌, ◌||◌, List, [], ◌∷◌, ◌++◌, refl, sym, ap, ◌∙◌, subst, inl, inr}
use Rattle.std.proofs.lemmas.List.{length-append}
use Rattle.std.proofs.lemmas.Bool.{and_parts, false_from_ne_true, or_left, or_right}
use Rattle.pb_fixpoint.specs.declared.Sign.TheVariants.{Mu, Nu}
use Rattle.pb_fixpoint.specs.Solution.{iterate, start}
use Rattle.pb_text_meaning.specs.Syntax.{Name, same_name}
use Rattle.pb_model_meaning.specs.Syntax.{StepSet, Formula, Model}
use Rattle.pb_model_meaning.specs.Steps.{State, has_step, is_state, state_count}
use Rattle.pb_model_meaning.specs.Satisfaction.{States, Valuation, satisfying, with_set}
use Rattle.pb_model_meaning.proofs.Fixpoints.{fixpoints_are_extreme}
use Rattle.pb_model_runs.specs.Runs.{Move, IsMove, last_state}
use Rattle.pb_model_runs.specs.Inevitably.{CanLeave}
use Rattle.pb_model_runs.proofs.AlwaysLemmas.{chosen-set}
use Rattle.pb_model_runs.proofs.Elements.{either_true}
use Rattle.pb_model_runs.proofs.InevitablyLemmas.{either-false}
use Rattle.pb_model_runs.proofs.RunsLemmas.{Along}
use Rattle.pb_model_run_laws.specs.Counterexamples.{LongRunsComeBack}
use Rattle.pb_model_run_laws.specs.Reactivity.{reactivity_by}
use Rattle.pb_model_fair_run_laws.specs.Once.{Once}
use Rattle.pb_model_fair_run_laws.specs.Unreactive.{any_of_three, NeverReacts, FalseNeverReacts, NeverReactsRefutes}
use Rattle.pb_model_fair_run_laws.proofs.Loops.{kept, never}
use Rattle.pb_model_fair_run_laws.proofs.Paths.{IsStep, joined, parted, once-first, once-second, end-of, run-of, by-of, within-of, steps-of}
use Rattle.pb_model_fair_run_laws.proofs.Rounds.{Round, end-or-circle}
use Rattle.pb_model_fair_run_laws.proofs.Stretches.{stretch}
use Rattle.pb_model_fair_run_laws.proofs.Successors.{all_in, In, leaves, there}
use Rattle.pb_model_fair_run_laws.proofs.Valuations.{with-other}

grouped : (a b c : Bool) → (a && (b && c)) ≡ (false || ((a && b) && c))
grouped true b c = refl
grouped false b c = refl

module _ (m : Model) (ρ : Valuation) (A B C : StepSet) (X Y Z : Name) (yx : same_name Y X ≡ false) (zx : same_name Z X ≡ false) (zy : same_name Z Y ≡ false) where
  abbrev body : Formula
  body = Formula.And (Formula.Box A (Formula.Named X)) (Formula.And (Formula.Box B (Formula.Named Y)) (Formula.Box C (Formula.Named Z)))

  abbrev All : StepSet
  All = any_of_three A B C

  abbrev Both : StepSet
  Both = StepSet.Union B C

  abbrev nothing : States
  nothing = λ t. false

  -- where X is K, Y is S and Z is U
  abbrev g : States → States → States → States
  g K S U = satisfying m (with_set (with_set (with_set ρ X K) Y S) Z U) body

  -- the greatest fixpoint within, where X is K and Y is S
  abbrev inner : States → States → States
  inner K S = iterate (state_count m) (g K S) (start Nu)

  -- and the least one, where X is K
  abbrev middle : States → States
  middle K = iterate (state_count m) (inner K) (start Mu)

  abbrev T : States
  T = satisfying m ρ (reactivity_by A B C X Y Z)

  operator : (K S U : States) (s : State) → g K S U s ≡ (all_in m A K s && (all_in m B S s && all_in m C U s))
  operator K S U s =
      let σ : Valuation = with_set (with_set ρ X K) Y S in
      let τ : Valuation = with_set σ Z U in
      let first = with-other σ Z X U zx ∙ with-other (with_set ρ X K) Y X S yx ∙ chosen-set ρ X K in
      let second = with-other σ Z Y U zy ∙ chosen-set (with_set ρ X K) Y S in
      ap (λ (W : States). all_in m A W s && (all_in m B (τ Y) s && all_in m C (τ Z) s)) first
      ∙ ap (λ (W : States). all_in m A K s && (all_in m B W s && all_in m C (τ Z) s)) second
      ∙ ap (λ (W : States). all_in m A K s && (all_in m B S s && all_in m C W s)) (chosen-set σ Z U)

  inner-fixed : (K S : States) (s : State) → is_state m s ≡ true → (all_in m A K s && (all_in m B S s && all_in m C (inner K S) s)) ≡ inner K S s
  inner-fixed K S s e =
      sym (operator K S (inner K S) s)
      ∙ (fixpoints_are_extreme m (with_set (with_set ρ X K) Y S) Nu Z body ((λ k. refl, (λ k. refl, λ k. refl)), (tt, (tt, tt)))).fixpoint s e

  middle-fixed : (K : States) (s : State) → is_state m s ≡ true → inner K (middle K) s ≡ middle K s
  middle-fixed K s e =
      (fixpoints_are_extreme m (with_set ρ X K) Mu Y (Formula.Fixpoint Nu Z body)
      (λ e. (λ k. refl, (λ k. refl, λ k. refl)), ((λ k. refl, (λ k. refl, λ k. refl)), (tt, (tt, tt))))).fixpoint s e

  fixed : (s : State) → is_state m s ≡ true → middle T s ≡ T s
  fixed s e =
      (fixpoints_are_extreme m ρ Nu X (Formula.Fixpoint Mu Y (Formula.Fixpoint Nu Z body))
      (λ i j. (λ k. refl, (λ k. refl, λ k. refl)), (λ i. (λ k. refl, (λ k. refl, λ k. refl)), ((λ k. refl, (λ k. refl, λ k. refl)), (tt, (tt, tt)))))).fixpoint s e

  -- ---- where it is false

  abbrev End : State → Type 0
  End s = NeverReacts m A B C s

  abbrev AnyStep : State → Move → Type 0
  AnyStep = IsStep m All nothing

  abbrev G : State → Move → Type 0
  G = IsStep m Both nothing

  abbrev Takes : State → Move → Type 0
  Takes t x = has_step B x.name ≡ true

  abbrev Answers : State → List Move → Type 0
  Answers s path = Once Takes s path

  answers-more : (s : State) (xs ys : List Move) → Answers s xs → Answers s (xs ++ ys)
  answers-more s xs ys h = once-first Takes s xs ys h

  any-of-both : (s : State) (path : List Move) → Along G s path → Along AnyStep s path
  any-of-both s [] h = tt
  any-of-both s (x ∷ path) h =
      (record { move = h.0.move; named = or_right (has_step A x.name) (has_step Both x.name) h.0.named; within = h.0.within; lacks = refl }, any-of-both x.state path h.1)

  both-of-last : (s : State) (path : List Move) → Along (IsStep m C nothing) s path → Along G s path
  both-of-last s [] h = tt
  both-of-last s (x ∷ path) h =
      (record { move = h.0.move; named = or_right (has_step B x.name) (has_step C x.name) h.0.named; within = h.0.within; lacks = refl }, both-of-last x.state path h.1)

  longer : (s : State) (x : Move) → AnyStep s x → End x.state → End s
  longer s x taken (inl l) =
      inl (record {
        stem = x ∷ l.stem;
        loop = l.loop;
        lasso = record { run = (taken.move, l.lasso.run); back = l.lasso.back };
        by = (taken.named, l.by);
        again = l.again;
        within = (taken.within, l.within);
        takes = l.takes;
      })
  longer s x taken (inr r) = inr (record { path = x ∷ r.path; run = (taken.move, r.run); by = (taken.named, r.by); within = (taken.within, r.within); leaves = r.leaves })

  prefixed-by-any : (s : State) (path : List Move) → Along AnyStep s path → End (last_state s path) → End s
  prefixed-by-any s [] h end = end
  prefixed-by-any s (x ∷ path) h end = longer s x h.0 (prefixed-by-any x.state path h.1 end)

  prefixed : (s : State) (path : List Move) → Along G s path → End (last_state s path) → End s
  prefixed s path h end = prefixed-by-any s path (any-of-both s path h) end

  -- a step of one of the sets leads out of the ranges
  leads-out : (D : StepSet) → ((x : Move) → has_step D x.name ≡ true → has_step All x.name ≡ true) → (s : State) (path : List Move) → Along G s path → CanLeave m D (last_state s path) → End s
  leads-out D among s path h (x, move, named, outside) =
      let any = any-of-both s path h in
      inr (record {
        path = path;
        run = run-of m All nothing s path any;
        by = by-of m All nothing s path any;
        within = within-of m All nothing s path any;
        leaves = (x, move, among x named, outside);
      })

  among-a : (x : Move) → has_step A x.name ≡ true → has_step All x.name ≡ true
  among-a x e = or_left (has_step A x.name) (has_step Both x.name) e

  among-b : (x : Move) → has_step B x.name ≡ true → has_step All x.name ≡ true
  among-b x e = or_right (has_step A x.name) (has_step Both x.name) (or_left (has_step B x.name) (has_step C x.name) e)

  among-c : (x : Move) → has_step C x.name ≡ true → has_step All x.name ≡ true
  among-c x e = or_right (has_step A x.name) (has_step Both x.name) (or_right (has_step B x.name) (has_step C x.name) e)

  module _ (come-back : LongRunsComeBack) where
    -- one set of the outermost fixpoint, where outside the set before there is such a run
    module _ (K : States) (before : (u : State) → is_state m u ≡ true → K u ≡ false → End u) where
      abbrev Kind : State → Type 0
      Kind s = (is_state m s ≡ true) × (middle K s ≡ false)

      next : (s : State) → Kind s → End s ⊎ Round m G Answers answers-more Kind End (λ s k. k.0) prefixed s
      next s k =
          let way = stretch m C nothing (λ t. all_in m A K t && all_in m B (middle K) t) (g K (middle K))
          (λ U t. operator K (middle K) U t ∙ grouped (all_in m A K t) (all_in m B (middle K) t) (all_in m C U t)) (state_count m) s (middle-fixed K s k.0 ∙ k.1) in
          let t = last_state s way.path in
          let along = both-of-last s way.path way.along in
          elim way.ends [
            | inr leave ↦ inl (leads-out C among-c s way.path along leave)
            | inl fails ↦ elim (either-false (all_in m A K t) (all_in m B (middle K) t) fails) [
              | inl first ↦ elim (leaves m A K t first) [
                | inl leave ↦ inl (leads-out A among-a s way.path along leave)
                | inr on ↦
                    let taken : AnyStep t on.x = record { move = on.move; named = among-a on.x on.named; within = on.within; lacks = refl } in
                    inl (prefixed s way.path along (longer t on.x taken (before on.x.state on.within on.out)))
              ]
              | inr second ↦ elim (leaves m B (middle K) t second) [
                | inl leave ↦ inl (leads-out B among-b s way.path along leave)
                | inr on ↦
                    let named = or_left (has_step B on.x.name) (has_step C on.x.name) on.named in
                    let one : Along G t (on.x ∷ []) = (record { move = on.move; named = named; within = on.within; lacks = refl }, tt) in
                    let sum = length-append way.path (on.x ∷ []) in
                    inr (record {
                      path = way.path ++ (on.x ∷ []);
                      along = joined G s t way.path (on.x ∷ []) along refl one;
                      goes_on = omega (arith, sum);
                      does = once-second Takes s way.path (on.x ∷ []) (inl on.named);
                      kind = subst (λ (u : State). Kind u) (sym (end-of s t way.path (on.x ∷ []) refl)) (on.within, on.out);
                    })
              ]
            ]
          ]

      of-set : (s : State) → Kind s → End s
      of-set s k = elim (end-or-circle m G Answers answers-more Kind End (λ s k. k.0) prefixed next come-back s k) [
        | inl end ↦ end
        | inr c ↦
            let any = any-of-both s (c.stem ++ c.loop) c.along in
            inl (record {
              stem = c.stem;
              loop = c.loop;
              lasso = record { run = run-of m All nothing s (c.stem ++ c.loop) any; back = c.back };
              by = by-of m All nothing s (c.stem ++ c.loop) any;
              again = by-of m Both nothing (last_state s c.stem) c.loop (parted G s c.stem c.loop c.along).1;
              within = within-of m All nothing s (c.stem ++ c.loop) any;
              takes = c.does;
            })
      ]

    counterexample : (n : ℕ) (s : State) → is_state m s ≡ true → iterate n middle (start Nu) s ≡ false → End s
    counterexample zero s e h = absurd (true≢false h)
    counterexample (suc n) s e h = of-set (iterate n middle (start Nu)) (λ u within out. counterexample n u within out) s (e, h)

  -- ---- where it is true

  abbrev holds : ℕ → States
  holds n = iterate n (inner T) (start Mu)

  -- a step of A leads to where it is true again
  record IsReactive (S : States) (s : State) : Type 0 where
    first : all_in m A T s ≡ true
    second : all_in m B S s ≡ true
    third : all_in m C (inner T S) s ≡ true

  reactive : (S : States) (s : State) → In m (inner T S) s → IsReactive S s
  reactive S s here =
      let parts = and_parts (all_in m A T s) (all_in m B S s && all_in m C (inner T S) s) (inner-fixed T S s here.0 ∙ here.1) in
      let rest = and_parts (all_in m B S s) (all_in m C (inner T S) s) parts.1 in
      record { first = parts.0; second = rest.0; third = rest.1 }

  unfolded : (s : State) → In m T s → In m (inner T (middle T)) s
  unfolded s here = (here.0, middle-fixed T s here.0 ∙ fixed s here.0 ∙ here.1)

  folded : (s : State) → In m (middle T) s → In m T s
  folded s here = (here.0, sym (fixed s here.0) ∙ here.1)

  step : (s : State) (x : Move) → IsMove m s x → has_step All x.name ≡ true → In m T s → In m T x.state
  step s x move named here =
      let so = reactive (middle T) s (unfolded s here) in
      elim (either_true (has_step A x.name) (has_step Both x.name) named) [
        | inl a ↦ there m A T s x so.first move a
        | inr other ↦ elim (either_true (has_step B x.name) (has_step C x.name) other) [
          | inl b ↦ folded x.state (there m B (middle T) s x so.second move b)
          | inr c ↦
              let next = there m C (inner T (middle T)) s x so.third move c in
              folded x.state (next.0, sym (middle-fixed T x.state next.0) ∙ next.1)
        ]
      ]

  at-end : (s : State) (path : List Move) → Along AnyStep s path → In m T s → In m T (last_state s path)
  at-end s path h here = kept (λ t. In m T t) AnyStep (λ t x taken good. step t x taken.move taken.named good) s path h here

  on : (S : States) (s : State) (x : Move) → G s x → In m (inner T S) s → In m S x.state ⊎ (In m (inner T S) x.state × (Takes s x → ⊥))
  on S s x taken here = by (has_step B x.name) refl (reactive S s here)
    where
      by : (b : Bool) → has_step B x.name ≡ b → IsReactive S s → In m S x.state ⊎ (In m (inner T S) x.state × (has_step B x.name ≡ true → ⊥))
      by true named so = inl (there m B S s x so.second taken.move named)
      by false other so = elim (either_true (has_step B x.name) (has_step C x.name) taken.named) [
        | inl named ↦ absurd (true≢false (sym named ∙ other))
        | inr named ↦ inr (there m C (inner T S) s x so.third taken.move named, λ b. true≢false (sym b ∙ other))
      ]

  unlooped : (t : State) (loop : List Move) → Along G t loop → last_state t loop ≡ t → Once Takes t loop → In m T t → ⊥
  unlooped t loop h back once here =
      never (Unit {0}) (λ n u. In m (holds n) u) (λ d n u. In m (inner T (holds n)) u) (λ d u x. Takes u x) G (λ u here. true≢false (sym here.1)) (λ n u here. (tt, here))
      (λ d n u x taken claims. on (holds n) u x taken claims) t loop h back (λ d. once) tt (state_count m) (unfolded t here)

  refuted : (s : State) → In m T s → NeverReacts m A B C s → ⊥
  refuted s here (inl l) =
      let parts = parted AnyStep s l.stem l.loop (steps-of m All s (l.stem ++ l.loop) l.lasso.run l.by l.within) in
      let t = last_state s l.stem in
      let round = steps-of m Both t l.loop (run-of m All nothing t l.loop parts.1) l.again (within-of m All nothing t l.loop parts.1) in
      unlooped t l.loop round (sym (end-of s t l.stem l.loop refl) ∙ l.lasso.back) l.takes (at-end s l.stem parts.0 here)
  refuted s here (inr r) = unleft (last_state s r.path) (at-end s r.path (steps-of m All s r.path r.run r.by r.within) here) r.leaves
    where
      unleft : (t : State) → In m T t → CanLeave m All t → ⊥
      unleft t good (x, move, named, outside) = true≢false (sym (step t x move named good).0 ∙ outside)

pub false-never-reacts : LongRunsComeBack → FalseNeverReacts
false-never-reacts come-back m ρ A B C X Y Z s yx zx zy e h = counterexample m ρ A B C X Y Z yx zx zy come-back (state_count m) s e h

pub never-reacts-refutes : NeverReactsRefutes
never-reacts-refutes m ρ A B C X Y Z s yx zx zy e one =
    false_from_ne_true (satisfying m ρ (reactivity_by A B C X Y Z) s) (λ h. refuted m ρ A B C X Y Z yx zx zy s (e, h) one)
