-- What flows from a place, joined into a table: it leads there, and the table grows no more than it must.
use Rattle.std.proofs.Common.{◌≡◌, ℕ, zero, suc, ◌<◌, ◌≤◌, List, [], ◌∷◌, length, Option, Some, None, refl, sym, ap, ◌∙◌, subst, arith, ⊎_elim, inl, inr, ◌⊎◌}
use Rattle.std.specs.Prelude.{slice_get, slice_set}
use Rattle.std.proofs.lemmas.Bool.{cases_eq}
use Rattle.std.proofs.lemmas.Option.{none-some, same_Some}
use Rattle.pb_bytecode_program.specs.Transfer.{AbstractState, Edge, Flow}
use Rattle.pb_bytecode_program.specs.Accepted.{Table, state_at, join_option, IsCovered, Leads, AllLead, FlowIsCovered}
use Rattle.pb_bytecode_program.proofs.Rules.{state_within}
use Rattle.pb_verifier_states.specs.Join.{join_states}
use Rattle.pb_verifier_states.proofs.Hulls.{join_covers, join_least, join_none}
use Rattle.pb_verifier_flow.proofs.Order.{through}
use Rattle.pb_verifier.specs.Pass.{then_table, put, joined_at, merge_state, merge_edges}

-- each known state is covered by what the other table has there
abbrev pub IsBelow : Table → Table → Type 0
IsBelow old T = (r : ℕ) (k : AbstractState) → state_at old r ≡ Some k → Leads T (record { to = r; state = k })

-- no interval is empty
abbrev pub AllSolid : Table → Type 0
AllSolid table = (r : ℕ) (k : AbstractState) → state_at table r ≡ Some k → IsCovered k k

-- a table after what flows from place q was joined into it
pub record Joined (old new : Table) (q : ℕ) (es : List Edge) : Type 0 where
  pub leads : AllLead new es
  pub earlier : (r : ℕ) → r ≤ q → state_at new r ≡ state_at old r
  pub grows : IsBelow old new
  pub least : (T : Table) → IsBelow old T → AllLead T es → IsBelow new T
  pub solid : AllSolid new
  pub long : length new ≡ length old

-- what leads into a table leads into a wider one
pub leads_further : (old new : Table) (e : Edge) → IsBelow old new → Leads old e → Leads new e
leads_further old new e b l =
    let m = b e.to l.known l.there in
    record { known = m.known; there = m.there; covered = through e.state l.known m.known l.covered m.covered }

pub all_lead_further : (old new : Table) (es : List Edge) → IsBelow old new → AllLead old es → AllLead new es
all_lead_further old new [] b l = tt
all_lead_further old new (e ∷ es) b l = (leads_further old new e b l.0, all_lead_further old new es b l.1)

pub covered_further : (old new : Table) (F : Flow) → IsBelow old new → FlowIsCovered old F → FlowIsCovered new F
covered_further old new None b f = f
covered_further old new (Some es) b f = all_lead_further old new es b f

pub none_past : (t : Table) (to : ℕ) → slice_get t to ≡ None → length t ≤ to
none_past [] to h = omega arith
none_past (x ∷ t) zero h = cc
none_past (x ∷ t) (suc to) h = let i = none_past t to h in omega arith

pub set_same : (t : Table) (to : ℕ) (o : Option AbstractState) (n : AbstractState) → slice_get t to ≡ Some o → state_at (slice_set t to (Some n)) to ≡ Some n
set_same [] to o n h = cc
set_same (x ∷ t) zero o n h = refl
set_same (x ∷ t) (suc to) o n h = set_same t to o n h

pub set_other : (t : Table) (to r : ℕ) (n : AbstractState) → (r ≡ to → ⊥) → state_at (slice_set t to (Some n)) r ≡ state_at t r
set_other [] to r n h = refl
set_other (x ∷ t) zero zero n h = absurd (h refl)
set_other (x ∷ t) zero (suc r) n h = refl
set_other (x ∷ t) (suc to) zero n h = refl
set_other (x ∷ t) (suc to) (suc r) n h = set_other t to r n (λ e. h (ap suc e))

pub set_long : (t : Table) (to : ℕ) (n : AbstractState) → length (slice_set t to (Some n)) ≡ length t
set_long [] to n = refl
set_long (x ∷ t) zero n = refl
set_long (x ∷ t) (suc to) n = ap suc (set_long t to n)

-- what stands at a place
abbrev Stood : Table → ℕ → Option AbstractState → Type 0
Stood t to o = slice_get t to ≡ Some o

pub stood_known : (t : Table) (to : ℕ) (o : Option AbstractState) → Stood t to o → state_at t to ≡ o
stood_known t to o h = ap join_option h

-- a state that covers what stood there and what came, and no more
written : (t : Table) (q to : ℕ) (o : Option AbstractState) (s n : AbstractState) → q < to → Stood t to o → AllSolid t
    → IsCovered s n → IsCovered n n → ((k : AbstractState) → o ≡ Some k → IsCovered k n)
    → ((m : AbstractState) → ((k : AbstractState) → o ≡ Some k → IsCovered k m) → IsCovered s m → IsCovered n m)
    → Joined t (slice_set t to (Some n)) q (record { to = to; state = s } ∷ [])
written t q to o s n lt h solid sn nn old least =
    let here = set_same t to o n h in
    let at : (r : ℕ) (k : AbstractState) → state_at (slice_set t to (Some n)) r ≡ Some k → ((r ≡ to) × (k ≡ n)) ⊎ ((r ≡ to → ⊥) × (state_at t r ≡ Some k)) = λ r k e.
    ⊎_elim
    (λ same. inl (same, let f = ap (state_at (slice_set t to (Some n))) same in cc))
    (λ differ. inr (differ, sym (set_other t to r n differ) ∙ e))
    (cases_eq r to) in
    record {
      leads = (record { known = n; there = here; covered = sn }, tt);
      earlier = λ r le. set_other t to r n (λ e. let x : r ≡ to = e in absurd (omega arith));
      grows = λ r k e.
          ⊎_elim
          (λ (same : r ≡ to). let f : o ≡ Some k = sym (stood_known t to o h) ∙ ap (state_at t) (sym same) ∙ e in
          let l : Leads (slice_set t to (Some n)) (record { to = r; state = k }) = record { known = n; there = ap (state_at (slice_set t to (Some n))) same ∙ here; covered = old k f } in l)
          (λ (differ : r ≡ to → ⊥). let l : Leads (slice_set t to (Some n)) (record { to = r; state = k }) = record { known = k; there = set_other t to r n differ ∙ e; covered = solid r k e } in l)
          (cases_eq r to);
      least = λ T b l r k e.
          let L = l.0 in
          ⊎_elim
          (λ (x : (r ≡ to) × (k ≡ n)).
          let c : IsCovered n L.known =
          least L.known
          (λ k' f. let m = b to k' (stood_known t to o h ∙ f) in
          subst (λ (u : AbstractState). IsCovered k' u)
          (let g = m.there in let i = L.there in let same : m.known ≡ L.known = cc in same) m.covered) L.covered in
          let g : Leads T (record { to = r; state = k }) =
          record {
            known = L.known;
            there = ap (state_at T) x.0 ∙ L.there;
            covered =
                subst (λ (u : AbstractState). IsCovered u L.known) (sym x.1) c;
          } in g)
          (λ (x : (r ≡ to → ⊥) × (state_at t r ≡ Some k)). b r k x.1)
          (at r k e);
      solid = λ r k e. ⊎_elim (λ (x : (r ≡ to) × (k ≡ n)). subst (λ (u : AbstractState). IsCovered u u) (sym x.1) nn) (λ (x : (r ≡ to → ⊥) × (state_at t r ≡ Some k)). solid r k x.1) (at r k e);
      long = set_long t to n;
    }

fresh : (t u : Table) (q to : ℕ) (s : AbstractState) → q < to → AllSolid t → IsCovered s s → slice_get t to ≡ Some None
    → slice_set t to (Some s) ≡ u → Joined t u q (record { to = to; state = s } ∷ [])
fresh t u q to s lt solid ss h same =
    subst (λ v. Joined t v q (record { to = to; state = s } ∷ [])) same (written t q to None s s lt h solid ss ss (λ k g. absurd (none-some k g)) (λ m b sm. sm))

widened : (t u : Table) (q to : ℕ) (s k n : AbstractState) → q < to → AllSolid t → IsCovered s s
    → slice_get t to ≡ Some (Some k) → join_states k s ≡ Some n → slice_set t to (Some n) ≡ u
    → Joined t u q (record { to = to; state = s } ∷ [])
widened t u q to s k n lt solid ss h f same =
    let c = join_covers k s n f (solid to k (stood_known t to (Some k) h)) ss in
    let nn = join_least k s n n f c.0 c.1 in
    subst (λ v. Joined t v q (record { to = to; state = s } ∷ [])) same
    (written t q to (Some k) s n lt h solid c.1 nn (λ k' g. subst (λ (x : AbstractState). IsCovered x n) (same_Some k k' g) c.0) (λ m b sm. join_least k s n m f (b k refl) sm))

widened_by : (t u : Table) (q to : ℕ) (s k : AbstractState) (j : Option AbstractState) → q < to → AllSolid t
    → IsCovered s s → slice_get t to ≡ Some (Some k) → join_states k s ≡ j → put t to j ≡ Some u
    → Joined t u q (record { to = to; state = s } ∷ [])
widened_by t u q to s k None lt solid ss h f e = absurd (none-some u e)
widened_by t u q to s k (Some n) lt solid ss h f e = widened t u q to s k n lt solid ss h f (same_Some _ _ e)

merge_by : (t u : Table) (q to : ℕ) (s : AbstractState) (o : Option (Option AbstractState)) → q < to → AllSolid t
    → IsCovered s s → slice_get t to ≡ o → joined_at t to o s ≡ Some u → Joined t u q (record { to = to; state = s } ∷ [])
merge_by t u q to s None lt solid ss h e = absurd (none-some u e)
merge_by t u q to s (Some None) lt solid ss h e = fresh t u q to s lt solid ss h (same_Some _ _ e)
merge_by t u q to s (Some (Some k)) lt solid ss h e = widened_by t u q to s k (join_states k s) lt solid ss h refl e

merge_joined : (t u : Table) (q to : ℕ) (s : AbstractState) → q < to → AllSolid t → IsCovered s s → merge_state t to s ≡ Some u → Joined t u q (record { to = to; state = s } ∷ [])
merge_joined t u q to s lt solid ss e = merge_by t u q to s (slice_get t to) lt solid ss refl e

-- where two are not joined, nothing covers both
pub merge_refused : (t T : Table) (to : ℕ) (s : AbstractState) → length t ≡ length T → IsBelow t T → Leads T (record { to = to; state = s }) → merge_state t to s ≡ None → ⊥
merge_refused t T to s len b l e = by (slice_get t to) refl e
  where
    put_none : (j : Option AbstractState) → put t to j ≡ None → j ≡ None
    put_none None e = refl
    put_none (Some n) e = cc

    by : (o : Option (Option AbstractState)) → slice_get t to ≡ o → joined_at t to o s ≡ None → ⊥
    by None h e = let w = state_within T to l.known l.there in let p = none_past t to h in omega arith
    by (Some None) h e = cc
    by (Some (Some k)) h e =
        let m = b to k (stood_known t to (Some k) h) in
        let same : m.known ≡ l.known = let g = m.there in let i = l.there in cc in
        join_none k s l.known (put_none (join_states k s) e) (subst (λ (u : AbstractState). IsCovered k u) same m.covered) l.covered

-- ---- all that transfer from a place

nothing_joined : (t : Table) (q : ℕ) → AllSolid t → Joined t t q []
nothing_joined t q s = record { leads = tt; earlier = λ r le. refl; grows = λ r k e. record { known = k; there = e; covered = s r k e }; least = λ T b l. b; solid = s; long = refl }

more_joined : (t v u : Table) (q : ℕ) (e : Edge) (es : List Edge) → Joined t v q (e ∷ []) → Joined v u q es → Joined t u q (e ∷ es)
more_joined t v u q e es a b = record {
  leads = (leads_further v u e b.grows a.leads.0, b.leads);
  earlier = λ r le. b.earlier r le ∙ a.earlier r le;
  grows = λ r k h. leads_further v u (record { to = r; state = k }) b.grows (a.grows r k h);
  least = λ T x l. b.least T (a.least T x (l.0, tt)) l.1;
  solid = b.solid;
  long = b.long ∙ a.long;
}

-- each edge leads to_next_place with a solid state
abbrev pub AllFit : ℕ → List Edge → Type 0
AllFit q [] = Unit {0}
AllFit q (e ∷ es) = (q < e.to) × IsCovered e.state e.state × AllFit q es

pub edges_joined : (es : List Edge) (t u : Table) (q : ℕ) → AllFit q es → AllSolid t → merge_edges t es ≡ Some u → Joined t u q es
edges_joined [] t u q f s e = subst (λ v. Joined t v q []) (same_Some t u e) (nothing_joined t q s)
edges_joined (e ∷ es) t u q f s h = by (merge_state t e.to e.state) refl h (λ v s' h'. edges_joined es v u q f.2 s' h')
  where
    by : (o : Option Table) → merge_state t e.to e.state ≡ o → then_table o (λ v. merge_edges v es) ≡ Some u
        → ((v : Table) → AllSolid v → merge_edges v es ≡ Some u → Joined v u q es) → Joined t u q (e ∷ es)
    by None m h r = absurd (none-some u h)
    by (Some v) m h r =
        let a = merge_joined t v q e.to e.state f.0 s f.1 m in
        more_joined t v u q e es a (r v a.solid h)

pub edges_refused : (es : List Edge) (t T : Table) (q : ℕ) → AllFit q es → AllSolid t → length t ≡ length T → IsBelow t T → AllLead T es → merge_edges t es ≡ None → ⊥
edges_refused [] t T q f s len b l h = none-some t (sym h)
edges_refused (e ∷ es) t T q f s len b l h = by (merge_state t e.to e.state) refl h (λ v s' len' b' h'. edges_refused es v T q f.2 s' len' b' l.1 h')
  where
    by : (o : Option Table) → merge_state t e.to e.state ≡ o → then_table o (λ v. merge_edges v es) ≡ None
        → ((v : Table) → AllSolid v → length v ≡ length T → IsBelow v T → merge_edges v es ≡ None → ⊥) → ⊥
    by None m h r = merge_refused t T e.to e.state len b l.0 m
    by (Some v) m h r =
        let a = merge_joined t v q e.to e.state f.0 s f.1 m in
        r v a.solid (a.long ∙ len) (a.least T b (l.0, tt)) h
