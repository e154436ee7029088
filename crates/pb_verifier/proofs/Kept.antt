-- What the pass keeps at each place, sound and complete.
use Rattle.std.proofs.Common.{◌≡◌, ℕ, ◌+◌, ◌<◌, ◌≤◌, List, [], ◌∷◌, length, Option, Some, None, refl, sym, ap, ◌∙◌, subst, arith, ⊎_elim}
use Rattle.std.specs.Prelude.{slice_get, slice_set}
use Rattle.std.proofs.lemmas.Bool.{cases_eq, cases_lt}
use Rattle.std.proofs.lemmas.Option.{none-some, same_Some}
use Rattle.pb_bytecode_program.specs.Machine.{Program}
use Rattle.pb_bytecode_program.specs.Counts.{LoopEffect, Enters, Leaves, Straight, loop_effect, loops_after, loops_around}
use Rattle.pb_bytecode_program.specs.Transfer.{AbstractState, Edge, Flow, transfer}
use Rattle.pb_bytecode_program.specs.Accepted.{Table, state_at, state_at_loop, IsCovered, Leads, FlowIsCovered, HasValidTarget, entry, Accepted}
use Rattle.pb_bytecode_program.proofs.Places.{AllBelow, around_below, around_next}
use Rattle.pb_bytecode_program.specs.declared.instruction.Op.{Op}
use Rattle.pb_bytecode_program.specs.declared.instruction.Op.TheVariants as op
use Rattle.pb_verifier_states.specs.Join.{join_states}
use Rattle.pb_bytecode_program.specs.Monotone.{IsCoveredAtLoop}
use Rattle.pb_bytecode_program.proofs.Monotone.{AllEdges}
use Rattle.pb_verifier_flow.proofs.Covered.{flow_covered, solid_flow}
use Rattle.pb_verifier.specs.Pass.{then_table, put, joined_at, merge_state, merge_edges}
use Rattle.pb_verifier_structure.specs.Structure.{IsStructured, IsProgramWithinLimits}
use Rattle.pb_verifier.proofs.Targets.{TargetHolds, transfer_goes}
use Rattle.pb_verifier.proofs.Merges.{IsBelow, AllSolid, Joined, AllFit, leads_further, covered_further, edges_joined, edges_refused, set_other}

-- the rules are met at the places before q
abbrev pub IsDone : Program → Table → ℕ → Type 0
IsDone p table q = (r : ℕ) (i : Op) (k : AbstractState) → r < q → slice_get p.code r ≡ Some i
    → state_at table r ≡ Some k → FlowIsCovered table (transfer p (state_at_loop table (loops_around p.code r)) r i k)

-- something is known at each of these places
abbrev pub AllKnown : Table → List ℕ → Type 0
AllKnown T [] = Unit {0}
AllKnown T (x ∷ xs) = ((k : AbstractState) × (state_at T x ≡ Some k)) × AllKnown T xs

-- what the pass keeps
pub record Kept (p : Program) (T : Table) (q : ℕ) : Type 0 where
  pub done : IsDone p T q
  pub solid : AllSolid T
  pub begins : Leads T (record { to = 0; state = entry p })
  pub long : length T ≡ length p.code
  pub reached : (r : ℕ) (k : AbstractState) → state_at T r ≡ Some k → AllKnown T (loops_around p.code r)

-- ---- edges

all_of_both : (P Q : ℕ → AbstractState → Type 0) (q : ℕ) (es : List Edge) → AllEdges (λ to k. q < to) es → AllEdges (λ to k. IsCovered k k) es → AllFit q es
all_of_both P Q q [] a b = tt
all_of_both P Q q (e ∷ es) a b = (a.0, b.0, all_of_both P Q q es a.1 b.1)

target_later : (p : Program) (q : ℕ) (i : Op) → HasValidTarget p q i → TargetHolds (λ to. q < to) i
target_later p q (op.Jump to) h = h.later
target_later p q (op.JumpIf on to) h = h.later
target_later p q (op.InRange low high to) h = h.later
target_later p q (op.SlotInRange j low high to) h = h.later
target_later p q op.End h = tt
target_later p q (op.PushInt z) h = tt
target_later p q (op.PushBool z) h = tt
target_later p q (op.PushEnum s z) h = tt
target_later p q (op.Get z) h = tt
target_later p q op.Pop h = tt
target_later p q (op.Arithmetic z) h = tt
target_later p q op.Negate h = tt
target_later p q op.Absolute h = tt
target_later p q (op.Compare z) h = tt
target_later p q (op.Equality z) h = tt
target_later p q op.Not h = tt
target_later p q (op.Logic z) h = tt
target_later p q (op.Loop z) h = tt
target_later p q op.Next h = tt
target_later p q (op.Open z) h = tt
target_later p q op.Close h = tt
target_later p q (op.Emit z) h = tt
target_later p q (op.Call z) h = tt

pub later_edges : (p : Program) (home : Option AbstractState) (q : ℕ) (i : Op) (k : AbstractState) (es : List Edge)
    → HasValidTarget p q i → transfer p home q i k ≡ Some es → AllEdges (λ to m. q < to) es
later_edges p home q i k es v e = rw e at (transfer_goes (λ to. q < to) q (omega arith) p home i k (target_later p q i v))

-- the loops around a target are those around the jump
target_body : (p : Program) (T : Table) (q : ℕ) (i : Op) → HasValidTarget p q i → AllKnown T (loops_around p.code q) → TargetHolds (λ to. AllKnown T (loops_around p.code to)) i
target_body p T q (op.Jump to) h k = rw (h.one_body) k
target_body p T q (op.JumpIf on to) h k = rw (h.one_body) k
target_body p T q (op.InRange low high to) h k = rw (h.one_body) k
target_body p T q (op.SlotInRange j low high to) h k = rw (h.one_body) k
target_body p T q op.End h k = tt
target_body p T q (op.PushInt z) h k = tt
target_body p T q (op.PushBool z) h k = tt
target_body p T q (op.PushEnum s z) h k = tt
target_body p T q (op.Get z) h k = tt
target_body p T q op.Pop h k = tt
target_body p T q (op.Arithmetic z) h k = tt
target_body p T q op.Negate h k = tt
target_body p T q op.Absolute h k = tt
target_body p T q (op.Compare z) h k = tt
target_body p T q (op.Equality z) h k = tt
target_body p T q op.Not h k = tt
target_body p T q (op.Logic z) h k = tt
target_body p T q (op.Loop z) h k = tt
target_body p T q op.Next h k = tt
target_body p T q (op.Open z) h k = tt
target_body p T q op.Close h k = tt
target_body p T q (op.Emit z) h k = tt
target_body p T q (op.Call z) h k = tt

known_after : (T : Table) (t : LoopEffect) (q : ℕ) (k : AbstractState) (qs : List ℕ) → state_at T q ≡ Some k → AllKnown T qs → AllKnown T (loops_after t q qs)
known_after T (Enters i) q k qs e a = ((k, e), a)
known_after T Leaves q k [] e a = tt
known_after T Leaves q k (x ∷ qs) e a = a.1
known_after T Straight q k qs e a = a

body_edges : (p : Program) (T : Table) (home : Option AbstractState) (q : ℕ) (i : Op) (k m : AbstractState)
    (es : List Edge) → slice_get p.code q ≡ Some i → HasValidTarget p q i → AllKnown T (loops_around p.code q)
    → state_at T q ≡ Some m → transfer p home q i k ≡ Some es → AllEdges (λ to n. AllKnown T (loops_around p.code to)) es
body_edges p T home q i k m es at v a there e =
    rw e at (transfer_goes (λ to. AllKnown T (loops_around p.code to)) q
    (rw (around_next p.code q i at) (known_after T (loop_effect i) q m (loops_around p.code q) there a)) p home i k
    (target_body p T q i v a))

-- ---- what is known after a merge was known before, or flowed there

from_set : (P : ℕ → Type 0) (t : Table) (to : ℕ) (n : AbstractState) → P to
    → ((r : ℕ) (k : AbstractState) → state_at t r ≡ Some k → P r) → (r : ℕ) (k : AbstractState)
    → state_at (slice_set t to (Some n)) r ≡ Some k → P r
from_set P t to n here old r k e = ⊎_elim (λ (same : r ≡ to). subst P (sym same) here) (λ (differ : r ≡ to → ⊥). old r k (sym (set_other t to r n differ) ∙ e)) (cases_eq r to)

from_state : (P : ℕ → Type 0) (t u : Table) (to : ℕ) (s : AbstractState) (o : Option (Option AbstractState))
    → joined_at t to o s ≡ Some u → P to → ((r : ℕ) (k : AbstractState) → state_at t r ≡ Some k → P r)
    → (r : ℕ) (k : AbstractState) → state_at u r ≡ Some k → P r
from_state P t u to s None e here old = absurd (none-some u e)
from_state P t u to s (Some None) e here old = subst (λ v. (r : ℕ) (k : AbstractState) → state_at v r ≡ Some k → P r) (same_Some _ _ e) (from_set P t to s here old)
from_state P t u to s (Some (Some m)) e here old = by (join_states m s) e
  where
    by : (j : Option AbstractState) → put t to j ≡ Some u → (r : ℕ) (k : AbstractState) → state_at u r ≡ Some k → P r
    by None f = absurd (none-some u f)
    by (Some n) f = subst (λ v. (r : ℕ) (k : AbstractState) → state_at v r ≡ Some k → P r) (same_Some _ _ f) (from_set P t to n here old)

from_edges : (P : ℕ → Type 0) (es : List Edge) (t u : Table) → merge_edges t es ≡ Some u → AllEdges (λ to m. P to) es
    → ((r : ℕ) (k : AbstractState) → state_at t r ≡ Some k → P r) → (r : ℕ) (k : AbstractState) → state_at u r ≡ Some k → P r
from_edges P [] t u e a old = subst (λ v. (r : ℕ) (k : AbstractState) → state_at v r ≡ Some k → P r) (same_Some t u e) old
from_edges P (x ∷ es) t u e a old = by (merge_state t x.to x.state) refl e (λ v h next. from_edges P es v u h a.1 next)
  where
    by : (o : Option Table) → merge_state t x.to x.state ≡ o → then_table o (λ v. merge_edges v es) ≡ Some u
        → ((v : Table) → merge_edges v es ≡ Some u → ((r : ℕ) (k : AbstractState) → state_at v r ≡ Some k → P r)
        → (r : ℕ) (k : AbstractState) → state_at u r ≡ Some k → P r) → (r : ℕ) (k : AbstractState) → state_at u r ≡ Some k → P r
    by None m h f = absurd (none-some u h)
    by (Some v) m h f = f v h (from_state P t v x.to x.state (slice_get t x.to) m a.0 old)

known_further : (old new : Table) (qs : List ℕ) → IsBelow old new → AllKnown old qs → AllKnown new qs
known_further old new [] b a = tt
known_further old new (q ∷ qs) b a = (let l = b q a.0.0 a.0.1 in (l.known, l.there), known_further old new qs b a.1)

-- ---- homes

home_same : (old new : Table) (q r : ℕ) (qs : List ℕ) → ((x : ℕ) → x ≤ q → state_at new x ≡ state_at old x) → r ≤ q → AllBelow r qs → state_at_loop new qs ≡ state_at_loop old qs
home_same old new q r [] e l a = refl
home_same old new q r (x ∷ qs) e l a = e x (let b = a.0 in omega arith)

-- what is known at a LOOP is covered by an accepted table
home_covers : (T A : Table) (qs : List ℕ) → IsBelow T A → AllKnown T qs → IsCoveredAtLoop (state_at_loop T qs) (state_at_loop A qs)
home_covers T A [] b a = tt
home_covers T A (x ∷ qs) b a = let l = b x a.0.0 a.0.1 in rw (a.0.1, l.there) (l.covered)

home_solid : (T : Table) (o : Option AbstractState) (qs : List ℕ) → AllSolid T → state_at_loop T qs ≡ o → IsCoveredAtLoop o o
home_solid T None qs s e = tt
home_solid T (Some k) [] s e = cc
home_solid T (Some k) (x ∷ qs) s e = s x k e

-- ---- one place more

module _ (p : Program) (w : IsStructured p) (limits : IsProgramWithinLimits p) where
  abbrev pub flow_at : Table → ℕ → Op → AbstractState → Flow
  flow_at T q i k = transfer p (state_at_loop T (loops_around p.code q)) q i k

  flow_fits : (T : Table) (q : ℕ) (i : Op) (k : AbstractState) (es : List Edge) → Kept p T q → slice_get p.code q ≡ Some i → state_at T q ≡ Some k → flow_at T q i k ≡ Some es → AllFit q es
  flow_fits T q i k es c at there e =
      all_of_both (λ to m. Unit {0}) (λ to m. Unit {0}) q es (later_edges p _ q i k es (w.placed q i at) e)
      (solid_flow p (state_at_loop T (loops_around p.code q)) q i k es (limits.bounds q i at) (home_solid T _ (loops_around p.code q) c.solid refl) (c.solid q k there) e)

  done_more : (old new : Table) (q : ℕ) (es : List Edge) → IsDone p old q
      → ((i : Op) (k : AbstractState) → slice_get p.code q ≡ Some i → state_at old q ≡ Some k
      → flow_at old q i k ≡ Some es) → Joined old new q es → IsDone p new (q + 1)
  done_more old new q es d f j r i k lt at there =
      let old_there : r ≤ q → state_at old r ≡ Some k = λ le. sym (j.earlier r le) ∙ there in
      let home : r ≤ q → state_at_loop new (loops_around p.code r) ≡ state_at_loop old (loops_around p.code r) =
      λ le. home_same old new q r (loops_around p.code r) j.earlier le (around_below p.code r) in
      ⊎_elim
      (λ (less : r < q). rw (home (omega arith)) (covered_further old new _ j.grows (d r i k less at (old_there (omega arith)))))
      (λ (le : q ≤ r).
      let same : q ≡ r = omega arith in
      let e : flow_at old r i k ≡ Some es = subst (λ x. slice_get p.code x ≡ Some i → state_at old x ≡ Some k → flow_at old x i k ≡ Some es) same (f i k) at (old_there (omega arith)) in
      rw (home (omega arith), e) (j.leads))
      (cases_lt r q)

  done_unknown : (table : Table) (q : ℕ) → IsDone p table q → state_at table q ≡ None → IsDone p table (q + 1)
  done_unknown table q d n r i k lt at there =
      ⊎_elim
      (λ (less : r < q). d r i k less at there)
      (λ (le : q ≤ r). let same : r ≡ q = omega arith in let e = ap (state_at table) (sym same) in cc)
      (cases_lt r q)

  kept_joined : (T U : Table) (q : ℕ) (i : Op) (k : AbstractState) (es : List Edge) → Kept p T q
      → slice_get p.code q ≡ Some i → state_at T q ≡ Some k → flow_at T q i k ≡ Some es → merge_edges T es ≡ Some U
      → Joined T U q es → Kept p U (q + 1)
  kept_joined T U q i k es c at there f e j = record {
    done = done_more T U q es c.done
        (λ i' k' at' there'. subst (λ (x : Op). flow_at T q x k' ≡ Some es) (same_Some i i' (sym at ∙ at'))
        (subst (λ (x : AbstractState). flow_at T q i x ≡ Some es) (same_Some k k' (sym there ∙ there')) f)) j;
    solid = j.solid;
    begins = leads_further T U _ j.grows c.begins;
    long = j.long ∙ c.long;
    reached =
        let known = c.reached q k there in
        let here = j.grows q k there in
        from_edges (λ r. AllKnown U (loops_around p.code r)) es T U e
        (body_edges p U _ q i k here.known es at (w.placed q i at) (known_further T U _ j.grows known) here.there f)
        (λ r m h. known_further T U _ j.grows (c.reached r m h));
  }

  -- a visit that keeps what was known
  abbrev pub then_visit : Table → ℕ → Op → Option AbstractState → Option AbstractState → Option Table
  then_visit T q i home None = Some T
  then_visit T q i home (Some k) = then_table (transfer p home q i k) (merge_edges T)

  -- a place more is visited
  pub kept_more : (T U : Table) (q : ℕ) (i : Op) (home : Option AbstractState)
      → home ≡ state_at_loop T (loops_around p.code q) → Kept p T q → slice_get p.code q ≡ Some i
      → (o : Option AbstractState) → state_at T q ≡ o → then_visit T q i home o ≡ Some U → Kept p U (q + 1)
  kept_more T U q i home g c at None h e =
      subst (λ v. Kept p v (q + 1)) (same_Some T U e)
      (record { done = done_unknown T q c.done h; solid = c.solid; begins = c.begins; long = c.long; reached = c.reached })
  kept_more T U q i home g c at (Some k) h e = by (transfer p home q i k) refl e
    where
      by : (F : Flow) → transfer p home q i k ≡ F → then_table F (merge_edges T) ≡ Some U → Kept p U (q + 1)
      by None f e = absurd (none-some U e)
      by (Some es) f e =
          let f' : flow_at T q i k ≡ Some es = rw g at f in
          kept_joined T U q i k es c at h f' e (edges_joined es T U q (flow_fits T q i k es c at h f') c.solid e)

  -- earlier places stay as they were
  pub earlier_more : (T U : Table) (q : ℕ) (i : Op) (home : Option AbstractState)
      → home ≡ state_at_loop T (loops_around p.code q) → Kept p T q → slice_get p.code q ≡ Some i
      → (o : Option AbstractState) → state_at T q ≡ o → then_visit T q i home o ≡ Some U → (r : ℕ) → r ≤ q → state_at U r ≡ state_at T r
  earlier_more T U q i home g c at None h e r le = ap (λ v. state_at v r) (sym (same_Some T U e))
  earlier_more T U q i home g c at (Some k) h e r le = by (transfer p home q i k) refl e
    where
      by : (F : Flow) → transfer p home q i k ≡ F → then_table F (merge_edges T) ≡ Some U → state_at U r ≡ state_at T r
      by None f e = absurd (none-some U e)
      by (Some es) f e =
          let f' : flow_at T q i k ≡ Some es = rw g at f in
          let j = edges_joined es T U q (flow_fits T q i k es c at h f') c.solid e in
          j.earlier r le

  -- ---- refusal

  -- an accepted table covers what flows from a state that it covers
  accepted_covers : (T A : Table) (q : ℕ) (i : Op) (k : AbstractState) → Kept p T q → IsBelow T A → Accepted p A
      → slice_get p.code q ≡ Some i → state_at T q ≡ Some k → FlowIsCovered A (flow_at T q i k)
  accepted_covers T A q i k c b a at there =
      let l = b q k there in
      flow_covered p A _ _ q i k l.known (limits.bounds q i at) (home_covers T A (loops_around p.code q) b (c.reached q k there)) l.covered (a.each q i l.known at l.there)

  -- where a place is refused, no table accepts the code
  pub refused_at : (T A : Table) (q : ℕ) (i : Op) (home : Option AbstractState)
      → home ≡ state_at_loop T (loops_around p.code q) → Kept p T q → IsBelow T A → Accepted p A
      → slice_get p.code q ≡ Some i → (o : Option AbstractState) → state_at T q ≡ o → then_visit T q i home o ≡ None → ⊥
  refused_at T A q i home g c b a at None h e = none-some T (sym e)
  refused_at T A q i home g c b a at (Some k) h e = by (transfer p home q i k) refl e
    where
      covered : FlowIsCovered A (transfer p home q i k)
      covered = rw g (accepted_covers T A q i k c b a at h)

      by : (F : Flow) → transfer p home q i k ≡ F → then_table F (merge_edges T) ≡ None → ⊥
      by None f e = rw f at covered
      by (Some es) f e =
          let f' : flow_at T q i k ≡ Some es = rw g at f in
          edges_refused es T A q (flow_fits T q i k es c at h f') c.solid (c.long ∙ sym a.long) b (rw f at covered) e

  -- what is known stays below an accepted table
  pub below_more : (T U A : Table) (q : ℕ) (i : Op) (home : Option AbstractState)
      → home ≡ state_at_loop T (loops_around p.code q) → Kept p T q → IsBelow T A → Accepted p A
      → slice_get p.code q ≡ Some i → (o : Option AbstractState) → state_at T q ≡ o → then_visit T q i home o ≡ Some U → IsBelow U A
  below_more T U A q i home g c b a at None h e = subst (λ v. IsBelow v A) (same_Some T U e) b
  below_more T U A q i home g c b a at (Some k) h e = by (transfer p home q i k) refl e
    where
      covered : FlowIsCovered A (transfer p home q i k)
      covered = rw g (accepted_covers T A q i k c b a at h)

      by : (F : Flow) → transfer p home q i k ≡ F → then_table F (merge_edges T) ≡ Some U → IsBelow U A
      by None f e = absurd (none-some U e)
      by (Some es) f e =
          let f' : flow_at T q i k ≡ Some es = rw g at f in
          let j = edges_joined es T U q (flow_fits T q i k es c at h f') c.solid e in
          j.least A b (rw f at covered)
