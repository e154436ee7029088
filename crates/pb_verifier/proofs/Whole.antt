-- The whole pass is sound and complete.
use Rattle.std.proofs.Common.{◌≡◌, ℕ, zero, suc, ◌+◌, ◌<◌, ◌≤◌, Bool, true, false, List, [], ◌∷◌, length, map, drop, replicate, Option, Some, None, refl, sym, ap, ◌∙◌, subst, arith, ⊎_elim}
use Rattle.std.specs.Prelude.{slice_get, slice_set}
use Rattle.std.proofs.Math.ListN.{length-replicate}
use Rattle.std.proofs.lemmas.Bool.{cases_eq}
use Rattle.pb_base.specs.declared.limits.TheConstants.{MAX_STEPS, MAX_TOKENS}
use Rattle.pb_bytecode_program.specs.Machine.{Program}
use Rattle.pb_bytecode_program.specs.Counts.{LoopEffect, Enters, Leaves, Straight, loop_effect, loops_after, loops_around, static_steps, static_tokens}
use Rattle.pb_bytecode_program.specs.Transfer.{AbstractState}
use Rattle.pb_bytecode_program.specs.Abstract.{Covers, abstraction_of}
use Rattle.pb_bytecode_program.specs.Accepted.{Table, state_at, IsCovered, CoversEach, Leads, entry, Accepted}
use Rattle.pb_bytecode_program.proofs.Places.{AllBelow, around_below, around_next}
use Rattle.pb_bytecode_program.specs.declared.instruction.Op.{Op}
use Rattle.pb_sorts.specs.declared.carrier.Carrier.{Carrier}
use Rattle.pb_sorts.specs.declared.carrier.Carrier.TheVariants as carrier
use lib.Signed.{≤ℤ_refl}
use Rattle.std.proofs.lemmas.Option.{slice_get_within, none-some, same_Some}
use Rattle.pb_verifier.specs.Pass.{Homes, homes_after, visited, passes, passes_on, initial_table, code_passes, innermost}
use Rattle.pb_verifier_structure.specs.Structure.{IsStructured, IsProgramWithinLimits}
use Rattle.pb_verifier_structure.proofs.Around.{start_around}
use Rattle.pb_verifier.proofs.Merges.{IsBelow, set_same, set_other, set_long}
use Rattle.pb_verifier.proofs.Agreement.{Agrees, SameBehind, SameResult, visited_agrees, home_of}
use Rattle.pb_verifier.proofs.Kept.{Kept, later_edges, kept_more, earlier_more, refused_at, below_more, then_visit}

-- ---- the instructions that are left

head_at : (code : List Op) (q : ℕ) (i : Op) (is : List Op) → drop q code ≡ i ∷ is → slice_get code q ≡ Some i
head_at [] zero i is e = cc
head_at [] (suc q) i is e = cc
head_at (j ∷ code) zero i is e = let same : j ≡ i = cc in ap Some same
head_at (j ∷ code) (suc q) i is e = head_at code q i is e

tail_at : (code : List Op) (q : ℕ) (i : Op) (is : List Op) → drop q code ≡ i ∷ is → drop (q + 1) code ≡ is
tail_at [] zero i is e = cc
tail_at [] (suc q) i is e = cc
tail_at (j ∷ code) zero i is e = let same : code ≡ is = cc in same
tail_at (j ∷ code) (suc q) i is e = let z : suc q + 1 ≡ suc (q + 1) = omega arith in rw z (tail_at code q i is e)

end_at : (code : List Op) (q : ℕ) → drop q code ≡ [] → length code ≤ q
end_at [] q e = omega arith
end_at (j ∷ code) zero e = cc
end_at (j ∷ code) (suc q) e = let w = end_at code q e in omega arith

-- ---- homes

homes_same : (T U : Table) (q r : ℕ) (qs : List ℕ) → ((x : ℕ) → x ≤ q → state_at U x ≡ state_at T x) → r ≤ q → AllBelow r qs → map (state_at T) qs ≡ map (state_at U) qs
homes_same T U q r [] e l a = refl
homes_same T U q r (x ∷ qs) e l a = let b = a.0 in rw (e x (omega arith), homes_same T U q r qs e l a.1) refl

homes_step : (t : LoopEffect) (T U : Table) (q : ℕ) (qs : List ℕ) (homes : Homes) (o : Option AbstractState)
    → homes ≡ map (state_at U) qs → o ≡ state_at U q → homes_after t o homes ≡ map (state_at U) (loops_after t q qs)
homes_step (Enters i) T U q qs homes o h e = rw (h, e) refl
homes_step Leaves T U q [] homes o h e = rw h refl
homes_step Leaves T U q (x ∷ qs) homes o h e = rw h refl
homes_step Straight T U q qs homes o h e = h

module _ (p : Program) (w : IsStructured p) (limits : IsProgramWithinLimits p) where
  later : (T t : Table) (homes : Homes) (q : ℕ) (i : Op) → slice_get p.code q ≡ Some i → (a : Agrees p T t homes q)
      → SameResult q (visited p q i (state_at t q) homes (slice_set t q None)) (visited p q i (state_at T q) homes T)
  later T t homes q i at a = visited_agrees p T t homes q i a (λ k es e. later_edges p (innermost homes) q i k es (w.placed q i at) e)

  same_visit : (T : Table) (homes : Homes) (q : ℕ) (i : Op) (o : Option AbstractState) → then_visit p w limits T q i (innermost homes) o ≡ visited p q i o homes T
  same_visit T homes q i None = refl
  same_visit T homes q i (Some k) = refl

  -- what is known after a place
  agrees_more : (T U t u : Table) (homes : Homes) (q : ℕ) (i : Op) → slice_get p.code q ≡ Some i → Agrees p T t homes q
      → SameBehind q u U → ((r : ℕ) → r ≤ q → state_at U r ≡ state_at T r)
      → Agrees p U u (homes_after (loop_effect i) (state_at t q) homes) (q + 1)
  agrees_more T U t u homes q i at a s earlier = record {
    same = λ r le. s.0 r (omega arith);
    long = s.1;
    known = rw (around_next p.code q i at)
        (homes_step (loop_effect i) T U q (loops_around p.code q) homes (state_at t q)
        (a.known ∙ homes_same T U q q (loops_around p.code q) earlier (omega arith) (around_below p.code q))
        (a.same q (omega arith) ∙ sym (earlier q (omega arith))));
  }

  all_kept : (is : List Op) (q : ℕ) (T t : Table) (homes : Homes) → drop q p.code ≡ is → q ≤ length p.code → Kept p T q
      → Agrees p T t homes q → passes p q is homes t ≡ true → (U : Table) × Kept p U (length p.code)
  all_kept [] q T t homes d l c a e = let same : q ≡ length p.code = let x = end_at p.code q d in omega arith in (T, subst (Kept p T) same c)
  all_kept (i ∷ is) q T t homes d l c a e =
      let at = head_at p.code q i is d in
      by (visited p q i (state_at t q) homes (slice_set t q None)) (visited p q i (state_at T q) homes T) refl (later T t homes q i at a) e
      (λ u U v s r. let m = earlier_more p w limits T U q i (innermost homes) (home_of p T t homes q a) c at (state_at T q) refl (same_visit T homes q i (state_at T q) ∙ v) in
      all_kept is (q + 1) U u _ (tail_at p.code q i is d) (let x = slice_get_within p.code q i at in omega arith)
      (kept_more p w limits T U q i (innermost homes) (home_of p T t homes q a) c at (state_at T q) refl (same_visit T homes q i (state_at T q) ∙ v))
      (agrees_more T U t u homes q i at a s m) r)
    where
      next : Table → Bool
      next = passes p (q + 1) is (homes_after (loop_effect i) (state_at t q) homes)

      by : (o O : Option Table) → visited p q i (state_at T q) homes T ≡ O → SameResult q o O → passes_on o next ≡ true
          → ((u U : Table) → visited p q i (state_at T q) homes T ≡ Some U → SameBehind q u U → next u ≡ true
          → (V : Table) × Kept p V (length p.code)) → (V : Table) × Kept p V (length p.code)
      by None O v s e f = cc
      by (Some u) None v s e f = absurd s
      by (Some u) (Some U) v s e f = f u U v s e

  none_kept : (A : Table) (is : List Op) (q : ℕ) (T t : Table) (homes : Homes) → Accepted p A → drop q p.code ≡ is → Kept p T q → IsBelow T A → Agrees p T t homes q → passes p q is homes t ≡ false → ⊥
  none_kept A [] q T t homes ok d c b a e = cc
  none_kept A (i ∷ is) q T t homes ok d c b a e =
      let at = head_at p.code q i is d in
      by (visited p q i (state_at t q) homes (slice_set t q None)) (visited p q i (state_at T q) homes T) refl (later T t homes q i at a) e
      (λ u U v s r. let m = earlier_more p w limits T U q i (innermost homes) (home_of p T t homes q a) c at (state_at T q) refl (same_visit T homes q i (state_at T q) ∙ v) in
      none_kept A is (q + 1) U u _ ok (tail_at p.code q i is d)
      (kept_more p w limits T U q i (innermost homes) (home_of p T t homes q a) c at (state_at T q) refl (same_visit T homes q i (state_at T q) ∙ v))
      (below_more p w limits T U A q i (innermost homes) (home_of p T t homes q a) c b ok at (state_at T q) refl (same_visit T homes q i (state_at T q) ∙ v))
      (agrees_more T U t u homes q i at a s m) r)
      (λ n. refused_at p w limits T A q i (innermost homes) (home_of p T t homes q a) c b ok at (state_at T q) refl (same_visit T homes q i (state_at T q) ∙ n))
    where
      next : Table → Bool
      next = passes p (q + 1) is (homes_after (loop_effect i) (state_at t q) homes)

      by : (o O : Option Table) → visited p q i (state_at T q) homes T ≡ O → SameResult q o O → passes_on o next ≡ false
          → ((u U : Table) → visited p q i (state_at T q) homes T ≡ Some U → SameBehind q u U → next u ≡ false → ⊥)
          → (visited p q i (state_at T q) homes T ≡ None → ⊥) → ⊥
      by None None v s e f g = g v
      by None (Some U) v s e f g = absurd s
      by (Some u) None v s e f g = absurd s
      by (Some u) (Some U) v s e f g = f u U v s e

-- ---- the start

nothing_known : (n r : ℕ) → state_at (replicate n None) r ≡ None
nothing_known zero r = refl
nothing_known (suc n) zero = refl
nothing_known (suc n) (suc r) = nothing_known n r

first_there : (n : ℕ) → 0 < n → slice_get (replicate {A = Option AbstractState} n None) 0 ≡ Some None
first_there zero h = absurd (omega arith)
first_there (suc n) h = refl

carrier_solid : (c : Carrier) → Covers (abstraction_of c) (abstraction_of c)
carrier_solid carrier.Bool = tt
carrier_solid (carrier.Enum enumeration) = (refl, omega arith)
carrier_solid (carrier.Range range) = (≤ℤ_refl range.low, range.not_empty, ≤ℤ_refl range.high)

carriers_solid : (cs : List Carrier) → CoversEach (map abstraction_of cs) (map abstraction_of cs)
carriers_solid [] = tt
carriers_solid (c ∷ cs) = (carrier_solid c, carriers_solid cs)

entry_solid : (p : Program) → IsCovered (entry p) (entry p)
entry_solid p = record { operands = tt; operands_below = refl; parameters = carriers_solid p.parameters; loops = tt; brackets = refl; brackets_below = refl; roots = refl }

open_known : (p : Program) (r : ℕ) (k : AbstractState) → 0 < length p.code → state_at (initial_table p) r ≡ Some k → (r ≡ 0) × (k ≡ entry p)
open_known p r k l e =
    ⊎_elim
    (λ (same : r ≡ 0). (same, sym (same_Some _ _ (sym (set_same (replicate (length p.code) None) 0 None (entry p) (first_there (length p.code) l)) ∙ ap (state_at (initial_table p)) (sym same) ∙ e))))
    (λ (differ : r ≡ 0 → ⊥). absurd (none-some k (sym (nothing_known (length p.code) r) ∙ sym (set_other (replicate (length p.code) None) 0 r (entry p) differ) ∙ e)))
    (cases_eq r 0)

opening_kept : (p : Program) → IsProgramWithinLimits p → Kept p (initial_table p) 0
opening_kept p l =
    let some = l.some in record {
      done = λ r i k lt at h. absurd (omega arith);
      solid = λ r k e. let x = open_known p r k l.some e in subst (λ (u : AbstractState). IsCovered u u) (sym x.1) (entry_solid p);
      begins = record { known = entry p; there = set_same (replicate (length p.code) None) 0 None (entry p) (first_there (length p.code) l.some); covered = entry_solid p };
      long = set_long (replicate (length p.code) None) 0 (entry p) ∙ length-replicate (length p.code) None;
      reached = λ r k e. let x = open_known p r k l.some e in rw (x.0, start_around p.code) tt;
    }

opening_agrees : (p : Program) → Agrees p (initial_table p) (initial_table p) [] 0
opening_agrees p = record { same = λ r le. refl; long = refl; known = rw (start_around p.code) refl }

-- where the pass ends, a table accepts the code
pub pass_sound : (p : Program) → IsStructured p → IsProgramWithinLimits p → static_steps p ≤ p.stated_steps
    → p.stated_steps ≤ MAX_STEPS → static_tokens p ≤ p.stated_tokens → p.stated_tokens ≤ MAX_TOKENS
    → code_passes p ≡ true → (table : Table) × Accepted p table
pass_sound p w l a b c d e =
    let k = all_kept p w l p.code 0 (initial_table p) (initial_table p) [] refl (omega arith) (opening_kept p l) (opening_agrees p) e in (
      k.0,
      record {
        placed = w.placed;
        sited = w.sited;
        all_closed = w.all_closed;
        closes = w.closes;
        begins = k.1.begins;
        each = λ q i m at h. k.1.done q i m (slice_get_within p.code q i at) at h;
        long = k.1.long;
        steps_stated = a;
        steps_limit = b;
        tokens_stated = c;
        tokens_limit = d;
      },
    )

-- where it refuses, none does
pub pass_complete : (p : Program) (A : Table) → IsStructured p → IsProgramWithinLimits p → code_passes p ≡ false → Accepted p A → ⊥
pass_complete p A w l e ok =
    none_kept p w l A p.code 0 (initial_table p) (initial_table p) [] ok refl (opening_kept p l)
    (λ r k h. let x = open_known p r k l.some h in let b = ok.begins in
    let g : Leads A (record { to = r; state = k }) =
    record {
      known = b.known;
      there = ap (state_at A) x.0 ∙ b.there;
      covered =
          subst (λ (u : AbstractState). IsCovered u b.known) (sym x.1) b.covered;
    } in g)
    (opening_agrees p) e
