-- The pass gives up what it knew at a place: what it knows of later places agrees with a table that keeps all.
use Rattle.std.proofs.Common.{◌≡◌, ℕ, zero, suc, ◌<◌, ◌≤◌, List, [], ◌∷◌, length, map, Option, Some, None, refl, sym, ap, ◌∙◌, subst, arith, ⊎_elim}
use Rattle.std.specs.Prelude.{slice_get, slice_set}
use Rattle.std.proofs.lemmas.Bool.{cases_eq}
use Rattle.pb_bytecode_program.specs.Machine.{Program}
use Rattle.pb_bytecode_program.specs.Counts.{loops_around}
use Rattle.pb_bytecode_program.specs.Transfer.{AbstractState, Edge, Flow, transfer}
use Rattle.pb_bytecode_program.specs.Accepted.{Table, state_at, state_at_loop}
use Rattle.pb_bytecode_program.specs.declared.instruction.Op.{Op}
use Rattle.pb_verifier_states.specs.Join.{join_states}
use Rattle.pb_bytecode_program.proofs.Monotone.{AllEdges}
use Rattle.pb_verifier.specs.Pass.{then_table, put, joined_at, merge_state, merge_edges, visited, Homes, innermost}
use Rattle.pb_verifier.proofs.Merges.{set_same, set_long}

get_agrees : (t T : Table) (to : ℕ) → length t ≡ length T → state_at t to ≡ state_at T to → slice_get t to ≡ slice_get T to
get_agrees [] [] to l e = refl
get_agrees [] (x ∷ T) to l e = absurd (omega arith)
get_agrees (x ∷ t) [] to l e = absurd (omega arith)
get_agrees (x ∷ t) (y ∷ T) zero l e = ap Some e
get_agrees (x ∷ t) (y ∷ T) (suc to) l e = get_agrees t T to (omega arith) e

pub set_elsewhere : (t : Table) (to r : ℕ) (o : Option AbstractState) → (r ≡ to → ⊥) → state_at (slice_set t to o) r ≡ state_at t r
set_elsewhere [] to r o h = refl
set_elsewhere (x ∷ t) zero zero o h = absurd (h refl)
set_elsewhere (x ∷ t) zero (suc r) o h = refl
set_elsewhere (x ∷ t) (suc to) zero o h = refl
set_elsewhere (x ∷ t) (suc to) (suc r) o h = set_elsewhere t to r o (λ e. h (ap suc e))

pub set_any_long : (t : Table) (to : ℕ) (o : Option AbstractState) → length (slice_set t to o) ≡ length t
set_any_long [] to o = refl
set_any_long (x ∷ t) zero o = refl
set_any_long (x ∷ t) (suc to) o = ap suc (set_any_long t to o)

-- the two tables know the same of the places behind q
abbrev pub SameBehind : ℕ → Table → Table → Type 0
SameBehind q t T = ((r : ℕ) → q < r → state_at t r ≡ state_at T r) × (length t ≡ length T)

abbrev pub SameResult : ℕ → Option Table → Option Table → Type 0
SameResult q None None = Unit {0}
SameResult q (Some t) (Some T) = SameBehind q t T
SameResult q None (Some T) = ⊥
SameResult q (Some t) None = ⊥

set_agrees : (t T : Table) (q to : ℕ) (o : Option AbstractState) (n : AbstractState) → slice_get t to ≡ Some o
    → slice_get T to ≡ Some o → SameBehind q t T → SameBehind q (slice_set t to (Some n)) (slice_set T to (Some n))
set_agrees t T q to o n h H s = (
  (λ r lt. ⊎_elim
      (λ (same : r ≡ to). ap (state_at (slice_set t to (Some n))) same ∙ set_same t to o n h ∙ sym (set_same T to o n H) ∙ ap (state_at (slice_set T to (Some n))) (sym same))
      (λ (differ : r ≡ to → ⊥). set_elsewhere t to r (Some n) differ ∙ s.0 r lt ∙ sym (set_elsewhere T to r (Some n) differ))
      (cases_eq r to)),
  set_long t to n ∙ s.1 ∙ sym (set_long T to n),
)

merge_state_agrees : (t T : Table) (q to : ℕ) (k : AbstractState) → q < to → SameBehind q t T → SameResult q (merge_state t to k) (merge_state T to k)
merge_state_agrees t T q to k lt s =
    let g = get_agrees t T to s.1 (s.0 to lt) in
    subst (λ o. SameResult q (joined_at t to o k) (joined_at T to (slice_get T to) k)) (sym g) (by (slice_get T to) g refl)
  where
    by_join : (o : Option AbstractState) (j : Option AbstractState) → slice_get t to ≡ Some o → slice_get T to ≡ Some o → SameResult q (put t to j) (put T to j)
    by_join o None h H = tt
    by_join o (Some n) h H = set_agrees t T q to o n h H s

    by : (o : Option (Option AbstractState)) → slice_get t to ≡ o → slice_get T to ≡ o → SameResult q (joined_at t to o k) (joined_at T to o k)
    by None h H = tt
    by (Some None) h H = set_agrees t T q to None k h H s
    by (Some (Some m)) h H = by_join (Some m) (join_states m k) h H

merge_edges_agrees : (es : List Edge) (t T : Table) (q : ℕ) → AllEdges (λ to m. q < to) es → SameBehind q t T → SameResult q (merge_edges t es) (merge_edges T es)
merge_edges_agrees [] t T q l s = s
merge_edges_agrees (e ∷ es) t T q l s = by (merge_state t e.to e.state) (merge_state T e.to e.state) (merge_state_agrees t T q e.to e.state l.0 s) (λ v V w. merge_edges_agrees es v V q l.1 w)
  where
    by : (o O : Option Table) → SameResult q o O
        → ((v V : Table) → SameBehind q v V → SameResult q (merge_edges v es) (merge_edges V es))
        → SameResult q (then_table o (λ v. merge_edges v es)) (then_table O (λ v. merge_edges v es))
    by None None r f = tt
    by (Some v) (Some V) r f = f v V r
    by None (Some V) r f = absurd r
    by (Some v) None r f = absurd r

-- ---- one place

-- what the pass knows, and the table that keeps all
pub record Agrees (p : Program) (T t : Table) (homes : Homes) (q : ℕ) : Type 0 where
  pub same : (r : ℕ) → q ≤ r → state_at t r ≡ state_at T r
  pub long : length t ≡ length T
  pub known : homes ≡ map (state_at T) (loops_around p.code q)

innermost_home : (T : Table) (qs : List ℕ) → innermost (map (state_at T) qs) ≡ state_at_loop T qs
innermost_home T [] = refl
innermost_home T (q ∷ qs) = refl

pub home_of : (p : Program) (T t : Table) (homes : Homes) (q : ℕ) → Agrees p T t homes q → innermost homes ≡ state_at_loop T (loops_around p.code q)
home_of p T t homes q a = ap innermost a.known ∙ innermost_home T (loops_around p.code q)

-- a visit that keeps what was known does the same
pub visited_agrees : (p : Program) (T t : Table) (homes : Homes) (q : ℕ) (i : Op) → Agrees p T t homes q
    → ((k : AbstractState) (es : List Edge) → transfer p (innermost homes) q i k ≡ Some es
    → AllEdges (λ to m. q < to) es)
    → SameResult q (visited p q i (state_at t q) homes (slice_set t q None)) (visited p q i (state_at T q) homes T)
visited_agrees p T t homes q i a later = rw (a.same q (omega arith)) (by (state_at T q))
  where
    behind : SameBehind q (slice_set t q None) T
    behind = ((λ r lt. set_elsewhere t q r None (λ (e : r ≡ q). omega arith) ∙ a.same r (omega arith)), set_any_long t q None ∙ a.long)

    flowed : (k : AbstractState) (F : Flow) → transfer p (innermost homes) q i k ≡ F → SameResult q (then_table F (merge_edges (slice_set t q None))) (then_table F (merge_edges T))
    flowed k None f = tt
    flowed k (Some es) f = merge_edges_agrees es (slice_set t q None) T q (later k es f) behind

    by : (o : Option AbstractState) → SameResult q (visited p q i o homes (slice_set t q None)) (visited p q i o homes T)
    by None = behind
    by (Some k) = flowed k (transfer p (innermost homes) q i k) refl
