-- Where p doesn't come at last on fair paths, the part of each process gives a stretch that is fair to it, to where that is so again: the processes have their turns.
use Rattle.std.proofs.Common.{◌≡◌, ◌⊎◌, ℕ, zero, suc, ◌<◌, arith, Bool, true, false, true≢false, ◌&&◌, ◌||◌, List, [], ◌∷◌, ◌++◌, length, refl, sym, ap, ◌∙◌, subst, inl, inr}
use Rattle.std.specs.Prelude.{Contains}
use Rattle.std.proofs.lemmas.List.{length-append}
use Rattle.std.proofs.lemmas.Bool.{and_parts, false_from_ne_true, or_parts}
use Rattle.pb_fixpoint.specs.declared.Sign.TheVariants.{Mu, Nu}
use Rattle.pb_fixpoint.specs.Solution.{iterate, start}
use Rattle.pb_text_meaning.specs.Syntax.{Name, same_name}
use Rattle.pb_model_meaning.specs.Syntax.{StepSet, Formula, Model}
use Rattle.pb_model_meaning.specs.Steps.{State, has_step, is_state, state_count, successors}
use Rattle.pb_model_meaning.specs.Positive.{IsPositive}
use Rattle.pb_model_meaning.specs.Satisfaction.{States, Valuation, satisfying, with_set}
use Rattle.pb_model_meaning.proofs.Fixpoints.{fixpoints_are_extreme}
use Rattle.pb_model_runs.specs.Runs.{Move, IsMove, last_state}
use Rattle.pb_model_runs.specs.Inevitably.{CanLeave}
use Rattle.pb_model_runs.proofs.AlwaysLemmas.{chosen-set}
use Rattle.pb_model_runs.proofs.Elements.{either_of, either_true, first_of, later_of}
use Rattle.pb_model_runs.proofs.InevitablyLemmas.{either-false, none-there, not-none}
use Rattle.pb_model_runs.proofs.RunsLemmas.{Along}
use Rattle.pb_model_run_laws.specs.Counterexamples.{LongRunsComeBack}
use Rattle.pb_model_run_laws.specs.Free.{is_free, NotFreeIsWithout}
use Rattle.pb_model_run_laws.specs.WeakFairness.{fairly_at_last, unfair_to, unfair_to_some}
use Rattle.pb_model_fair_run_laws.specs.Once.{Once}
use Rattle.pb_model_fair_run_laws.specs.PutOffFairly.{IsServed, NeverComesFairly, FalseNeverComesFairly, NeverComesFairlyRefutes}
use Rattle.pb_model_fair_run_laws.proofs.Loops.{kept, never}
use Rattle.pb_model_fair_run_laws.proofs.Paths.{IsStep, joined, parted, once-first, once-second, end-of, run-of, within-of, fails-of, failing-steps-of, fails-at-end, by-any}
use Rattle.pb_model_fair_run_laws.proofs.Rounds.{Round, end-or-circle}
use Rattle.pb_model_fair_run_laws.proofs.Stretches.{stretch}
use Rattle.pb_model_fair_run_laws.proofs.Successors.{able, all_in, In, leaves, there}
use Rattle.pb_model_fair_run_laws.proofs.Valuations.{with-other}

regrouped : (p a b c d : Bool) → (p || (a && (b && (c && d)))) ≡ (p || ((a && (b && c)) && d))
regrouped true a b c d = refl
regrouped false false b c d = refl
regrouped false true false c d = refl
regrouped false true true c d = refl

module _ (m : Model) (ρ : Valuation) (Y Z : Name) (p : Formula) (without : NotFreeIsWithout) (apart : same_name Y Z ≡ false) (bound_y : is_free Y p ≡ false) (bound_z : is_free Z p ≡ false) where
  abbrev body : StepSet → Formula
  body A =
      Formula.Or p
      (Formula.And (Formula.Diamond StepSet.All (Formula.Truth true))
      (Formula.And (Formula.Box A (Formula.Named Z))
      (Formula.And (Formula.Or (Formula.Diamond A (Formula.Truth true)) (Formula.Box StepSet.All (Formula.Named Z))) (Formula.Box StepSet.All (Formula.Named Y)))))

  -- where Z is S and Y is U
  abbrev g : StepSet → States → States → States
  g A S U = satisfying m (with_set (with_set ρ Z S) Y U) (body A)

  -- the greatest fixpoint of a process, where Z is S
  abbrev inner : StepSet → States → States
  inner A S = satisfying m (with_set ρ Z S) (unfair_to A Y Z p)

  -- that of one of the processes
  abbrev some_inner : StepSet → List StepSet → States → States
  some_inner A others S = satisfying m (with_set ρ Z S) (unfair_to_some A others Y Z p)

  abbrev holds_p : States
  holds_p = satisfying m ρ p

  -- the process is able to take a step and hasn't, or all lead to where it is kept
  abbrev claim : StepSet → States → States
  claim A S s = able m StepSet.All s && (all_in m A S s && (able m A s || all_in m StepSet.All S s))

  operator : (A : StepSet) (S U : States) (s : State) → g A S U s ≡ (holds_p s || (claim A S s && all_in m StepSet.All U s))
  operator A S U s =
      let σ : Valuation = with_set ρ Z S in
      let τ : Valuation = with_set σ Y U in
      let same = without m σ Y p bound_y U ∙ without m ρ Z p bound_z S in
      let outer = with-other σ Y Z U apart ∙ chosen-set ρ Z S in
      let all = StepSet.All in
      ap (λ (F : States). F s || (able m all s && (all_in m A (τ Z) s && ((able m A s || all_in m all (τ Z) s) && all_in m all (τ Y) s)))) same
      ∙ ap (λ (W : States). holds_p s || (able m all s && (all_in m A W s && ((able m A s || all_in m all W s) && all_in m all (τ Y) s)))) outer
      ∙ ap (λ (W : States). holds_p s || (able m all s && (all_in m A S s && ((able m A s || all_in m all S s) && all_in m all W s)))) (chosen-set σ Y U)
      ∙ regrouped (holds_p s) (able m all s) (all_in m A S s) (able m A s || all_in m all S s) (all_in m all U s)

  inner-fixed : (A : StepSet) → IsPositive (unfair_to A Y Z p) → (S : States) (s : State) → is_state m s ≡ true → (holds_p s || (claim A S s && all_in m StepSet.All (inner A S) s)) ≡ inner A S s
  inner-fixed A positive S s e = sym (operator A S (inner A S) s) ∙ (fixpoints_are_extreme m (with_set ρ Z S) Nu Y (body A) positive).fixpoint s e

  abbrev G : State → Move → Type 0
  G = IsStep m StepSet.All holds_p

  module _ (A : StepSet) (others : List StepSet) (positive : IsPositive (fairly_at_last A others Y Z p)) where
    abbrev T : States
    T = satisfying m ρ (fairly_at_last A others Y Z p)

    fixed : (s : State) → is_state m s ≡ true → some_inner A others T s ≡ T s
    fixed s e = (fixpoints_are_extreme m ρ Mu Z (unfair_to_some A others Y Z p) positive).fixpoint s e

    -- ---- where it is false

    abbrev End : State → Type 0
    End s = NeverComesFairly m ρ (A ∷ others) p s

    abbrev Kind : State → Type 0
    Kind s = (is_state m s ≡ true) × (T s ≡ false)

    prefixed : (s : State) (path : List Move) → Along G s path → End (last_state s path) → End s
    prefixed s [] h end = end
    prefixed s (x ∷ path) h end = longer (prefixed x.state path h.1 end)
      where
        longer : End x.state → End s
        longer (inl l) =
            inl (record {
              stem = x ∷ l.stem;
              loop = l.loop;
              lasso = record { run = (h.0.move, l.lasso.run); back = l.lasso.back };
              goes_on = l.goes_on;
              within = (h.0.within, l.within);
              fails = (h.0.lacks, l.fails);
              fair = l.fair;
            })
        longer (inr r) =
            inr (record { path = x ∷ r.path; run = (h.0.move, r.run); by = (refl, r.by); within = (h.0.within, r.within); fails = (h.0.lacks, r.fails); ends = r.ends })

    stopped : (s : State) (path : List Move) → Along G s path → holds_p (last_state s path) ≡ false
        → (successors m StepSet.All (last_state s path) ≡ []) ⊎ CanLeave m StepSet.All (last_state s path) → End s
    stopped s path h last ends =
        inr (record {
          path = path;
          run = run-of m StepSet.All holds_p s path h;
          by = by-any path;
          within = within-of m StepSet.All holds_p s path h;
          fails = fails-of m ρ p s path h last;
          ends = ends;
        })

    -- a path that is fair to the processes, to where the formula is false again
    record Turns (processes : List StepSet) (s : State) : Type 0 where
      path : List Move
      along : Along G s path
      goes_on : 0 < length path
      fair : (B : StepSet) → Contains processes B → Once (IsServed m B) s path
      kind : Kind (last_state s path)

    -- by one step more
    turn : (B : StepSet) (s : State) (path : List Move) → Along G s path → holds_p (last_state s path) ≡ false
        → (x : Move) → IsMove m (last_state s path) x → Kind x.state → IsServed m B (last_state s path) x → Turns (B ∷ []) s
    turn B s path h last x move kind served =
        let t = last_state s path in
        let one : Along G t (x ∷ []) = (record { move = move; named = refl; within = kind.0; lacks = last }, tt) in
        let sum = length-append path (x ∷ []) in
        let now : Once (IsServed m B) s (path ++ (x ∷ [])) = once-second (IsServed m B) s path (x ∷ []) (inl served) in
        record {
          path = path ++ (x ∷ []);
          along = joined G s t path (x ∷ []) h refl one;
          goes_on = omega (arith, sum);
          fair = λ C among. elim (either_of B [] C among) [
            | inl same ↦ subst (λ (D : StepSet). Once (IsServed m D) s (path ++ (x ∷ []))) same now
            | inr none ↦ absurd (omega (arith, none.1))
          ];
          kind = subst (λ (u : State). Kind u) (sym (end-of s t path (x ∷ []) refl)) kind;
        }

    serve : (B : StepSet) (s : State) → inner B T s ≡ false → End s ⊎ Turns (B ∷ []) s
    serve B s e =
        let all = StepSet.All in
        let way = stretch m all holds_p (claim B T) (g B T) (λ U t. operator B T U t) (state_count m) s e in
        let t = last_state s way.path in
        elim way.ends [
          | inr leave ↦ inl (stopped s way.path way.along way.last (inr leave))
          | inl fails ↦ elim (either-false (able m all t) (all_in m B T t && (able m B t || all_in m all T t)) fails) [
            | inl stuck ↦ inl (stopped s way.path way.along way.last (inl (none-there m (successors m all t) stuck)))
            | inr some ↦ elim (either-false (all_in m B T t) (able m B t || all_in m all T t) some) [
              | inl own ↦ elim (leaves m B T t own) [
                | inl (x, move, named, outside) ↦ inl (stopped s way.path way.along way.last (inr (x, move, refl, outside)))
                | inr on ↦ inr (turn B s way.path way.along way.last on.x on.move (on.within, on.out) (inl on.named))
              ]
              | inr other ↦
                  let parts = or_parts (able m B t) (all_in m all T t) other in
                  elim (leaves m all T t parts.1) [
                    | inl leave ↦ inl (stopped s way.path way.along way.last (inr leave))
                    | inr on ↦ inr (turn B s way.path way.along way.last on.x on.move (on.within, on.out) (inr (none-there m (successors m B t) parts.0)))
                  ]
            ]
          ]
        ]

    together : (B : StepSet) (rest : List StepSet) (s : State) (first : Turns (B ∷ []) s) → Turns rest (last_state s first.path) → Turns (B ∷ rest) s
    together B rest s first more =
        let t = last_state s first.path in
        let path = first.path ++ more.path in
        let sum = length-append first.path more.path in
        let long = first.goes_on in
        record {
          path = path;
          along = joined G s t first.path more.path first.along refl more.along;
          goes_on = omega (arith, sum, long);
          fair = λ C among. elim (either_of B rest C among) [
            | inl same ↦
                subst (λ (D : StepSet). Once (IsServed m D) s path) same (once-first (IsServed m B) s first.path more.path (first.fair B (first_of B [])))
            | inr later ↦ once-second (IsServed m C) s first.path more.path (more.fair C later)
          ];
          kind = subst (λ (u : State). Kind u) (sym (end-of s t first.path more.path refl)) more.kind;
        }

    -- one process after another
    in-turn : (B : StepSet) (rest : List StepSet) → ((u : State) → Kind u → some_inner B rest T u ≡ false) → (s : State) → Kind s → End s ⊎ Turns (B ∷ rest) s
    in-turn B [] fails s k = serve B s (fails s k)
    in-turn B (C ∷ rest) fails s k =
        let parts = λ (u : State) (h : Kind u). or_parts (inner B T u) (some_inner C rest T u) (fails u h) in
        elim (serve B s (parts s k).0) [
          | inl end ↦ inl end
          | inr first ↦ elim (in-turn C rest (λ u h. (parts u h).1) (last_state s first.path) first.kind) [
            | inl end ↦ inl (prefixed s first.path first.along end)
            | inr more ↦ inr (together B (C ∷ rest) s first more)
          ]
        ]

    abbrev IsFair : State → List Move → Type 0
    IsFair s path = (B : StepSet) → Contains (A ∷ others) B → Once (IsServed m B) s path

    fair-more : (s : State) (xs ys : List Move) → IsFair s xs → IsFair s (xs ++ ys)
    fair-more s xs ys h B among = once-first (IsServed m B) s xs ys (h B among)

    next : (s : State) → Kind s → End s ⊎ Round m G IsFair fair-more Kind End (λ u k. k.0) prefixed s
    next s k = elim (in-turn A others (λ u h. fixed u h.0 ∙ h.1) s k) [
      | inl end ↦ inl end
      | inr turns ↦ inr (record { path = turns.path; along = turns.along; goes_on = turns.goes_on; does = turns.fair; kind = turns.kind })
    ]

    lacks-first : (t : State) (loop : List Move) → 0 < length loop → Along G t loop → holds_p t ≡ false
    lacks-first t [] long h = absurd (omega (arith, long))
    lacks-first t (x ∷ loop) long h = h.0.lacks

    counterexample : LongRunsComeBack → (s : State) → Kind s → End s
    counterexample come-back s k = elim (end-or-circle m G IsFair fair-more Kind End (λ u h. h.0) prefixed next come-back s k) [
      | inl end ↦ end
      | inr c ↦
          let first = lacks-first (last_state s c.stem) c.loop c.goes_on (parted G s c.stem c.loop c.along).1 in
          inl (record {
            stem = c.stem;
            loop = c.loop;
            lasso = record { run = run-of m StepSet.All holds_p s (c.stem ++ c.loop) c.along; back = c.back };
            goes_on = c.goes_on;
            within = within-of m StepSet.All holds_p s (c.stem ++ c.loop) c.along;
            fails = fails-of m ρ p s (c.stem ++ c.loop) c.along (ap holds_p c.back ∙ first);
            fair = c.does;
          })
    ]

    -- ---- where it is true

    abbrev holds : ℕ → States
    holds n = iterate n (some_inner A others) (start Mu)

    -- the process to which a state is unfair
    record Process : Type 0 where
      steps : StepSet
      among : Contains (A ∷ others) steps
      monotone : IsPositive (unfair_to steps Y Z p)

    process : (B : StepSet) (rest : List StepSet) → ((C : StepSet) → Contains (B ∷ rest) C → Contains (A ∷ others) C) → IsPositive (unfair_to_some B rest Y Z p)
        → (S : States) (s : State) → some_inner B rest S s ≡ true → (d : Process) × (inner d.steps S s ≡ true)
    process B [] into h S s e = (record { steps = B; among = into B (first_of B []); monotone = h }, e)
    process B (C ∷ rest) into h S s e = elim (either_true (inner B S s) (some_inner C rest S s) e) [
      | inl this ↦ (record { steps = B; among = into B (first_of B (C ∷ rest)); monotone = h.0 }, this)
      | inr other ↦ process C rest (λ D among. into D (later_of B (C ∷ rest) D among)) h.1 S s other
    ]

    within-parts : IsPositive (fairly_at_last A others Y Z p) → IsPositive (unfair_to_some A others Y Z p)
    within-parts (a, b) = b

    -- a state in the set of Z is unfair to a process
    chosen : (S : States) (s : State) → is_state m s ≡ true → some_inner A others S s ≡ true → (d : Process) × In m (inner d.steps S) s
    chosen S s within e = let one = process A others (λ C among. among) (within-parts positive) S s e in (one.0, (within, one.1))

    -- without p it is so since the process is able to take a step and hasn't
    record IsUnfair (d : Process) (S : States) (s : State) : Type 0 where
      going : able m StepSet.All s ≡ true
      own : all_in m d.steps S s ≡ true
      either : (able m d.steps s || all_in m StepSet.All S s) ≡ true
      on : all_in m StepSet.All (inner d.steps S) s ≡ true

    unfair : (d : Process) (S : States) (s : State) → holds_p s ≡ false → In m (inner d.steps S) s → IsUnfair d S s
    unfair d S s lacks here = elim (either_true (holds_p s) (claim d.steps S s && all_in m StepSet.All (inner d.steps S) s) (inner-fixed d.steps d.monotone S s here.0 ∙ here.1)) [
      | inl comes ↦ absurd (true≢false (sym comes ∙ lacks))
      | inr more ↦
          let first = and_parts (claim d.steps S s) (all_in m StepSet.All (inner d.steps S) s) more in
          let second = and_parts (able m StepSet.All s) (all_in m d.steps S s && (able m d.steps s || all_in m StepSet.All S s)) first.0 in
          let third = and_parts (all_in m d.steps S s) (able m d.steps s || all_in m StepSet.All S s) second.1 in
          record { going = second.0; own = third.0; either = third.1; on = first.1 }
    ]

    on : (d : Process) (S : States) (s : State) (x : Move) → G s x → In m (inner d.steps S) s → In m S x.state ⊎ (In m (inner d.steps S) x.state × (IsServed m d.steps s x → ⊥))
    on d S s x taken here =
        let so = unfair d S s taken.lacks here in
        by (has_step d.steps x.name) (able m d.steps s) refl refl so
      where
        by : (b c : Bool) → has_step d.steps x.name ≡ b → able m d.steps s ≡ c → IsUnfair d S s → In m S x.state ⊎ (In m (inner d.steps S) x.state × (IsServed m d.steps s x → ⊥))
        by true c named can so = inl (there m d.steps S s x so.own taken.move named)
        by false false other can't so = elim (either_true (able m d.steps s) (all_in m StepSet.All S s) so.either) [
          | inl can ↦ absurd (true≢false (sym can ∙ can't))
          | inr all ↦ inl (there m StepSet.All S s x all taken.move refl)
        ]
        by false true other can so =
            inr (
              there m StepSet.All (inner d.steps S) s x so.on taken.move refl,
              λ served. elim served [ inl named ↦ true≢false (sym named ∙ other) | inr none ↦ not-none m (successors m d.steps s) can none ],
            )

    keeps : (d : Process) (s : State) (x : Move) → G s x → In m (inner d.steps T) s → In m (inner d.steps T) x.state
    keeps d s x taken here = there m StepSet.All (inner d.steps T) s x (unfair d T s taken.lacks here).on taken.move refl

    at-end : (d : Process) (s : State) (path : List Move) → Along G s path → In m (inner d.steps T) s → In m (inner d.steps T) (last_state s path)
    at-end d s path h here = kept (λ t. In m (inner d.steps T) t) G (keeps d) s path h here

    unstopped : (d : Process) (s : State) → holds_p s ≡ false → In m (inner d.steps T) s → (successors m StepSet.All s ≡ []) ⊎ CanLeave m StepSet.All s → ⊥
    unstopped d s lacks here (inl none) = not-none m (successors m StepSet.All s) (unfair d T s lacks here).going none
    unstopped d s lacks here (inr (x, move, named, outside)) =
        true≢false (sym (there m StepSet.All (inner d.steps T) s x (unfair d T s lacks here).on move refl).0 ∙ outside)

    unlooped : (d : Process) (t : State) (loop : List Move) → Along G t loop → last_state t loop ≡ t → IsFair t loop → In m (inner d.steps T) t → ⊥
    unlooped d t loop h back fair here =
        never Process (λ n u. In m (holds n) u) (λ c n u. In m (inner c.steps (holds n)) u) (λ c u x. IsServed m c.steps u x) G (λ u here. true≢false (sym here.1))
        (λ n u here. chosen (holds n) u here.0 here.1) (λ c n u x taken claims. on c (holds n) u x taken claims) t loop h back
        (λ c. fair c.steps c.among) d (state_count m) here

    refuted-by : (d : Process) (s : State) → In m (inner d.steps T) s → End s → ⊥
    refuted-by d s here (inl l) =
        let parts = parted G s l.stem l.loop (failing-steps-of m ρ p s (l.stem ++ l.loop) l.lasso.run l.within l.fails) in
        let back = sym (end-of s (last_state s l.stem) l.stem l.loop refl) ∙ l.lasso.back in
        unlooped d (last_state s l.stem) l.loop parts.1 back l.fair (at-end d s l.stem parts.0 here)
    refuted-by d s here (inr r) =
        unstopped d (last_state s r.path) (fails-at-end m ρ p s r.path r.fails)
        (at-end d s r.path (failing-steps-of m ρ p s r.path r.run r.within r.fails) here) r.ends

    refuted : (s : State) → is_state m s ≡ true → T s ≡ true → End s → ⊥
    refuted s e h one = let unfair_here = chosen T s e (fixed s e ∙ h) in refuted-by unfair_here.0 s unfair_here.1 one

pub false-never-comes-fairly : LongRunsComeBack → NotFreeIsWithout → FalseNeverComesFairly
false-never-comes-fairly come-back without m ρ A others Y Z p s apart bound_y bound_z positive e h =
    counterexample m ρ Y Z p without apart bound_y bound_z A others positive come-back s (e, h)

pub never-comes-fairly-refutes : NotFreeIsWithout → NeverComesFairlyRefutes
never-comes-fairly-refutes without m ρ A others Y Z p s apart bound_y bound_z positive e one =
    false_from_ne_true (satisfying m ρ (fairly_at_last A others Y Z p) s) (λ h. refuted m ρ Y Z p without apart bound_y bound_z A others positive s e h one)
