-- A place whose state is written, taken out or moved.
use Rattle.std.proofs.Common.{◌≡◌, ℕ, zero, suc, ◌+◌, ◌<◌, ◌≤◌, List, [], ◌∷◌, length, get_or, Bool, false, Option, Some, None, refl, sym, ap, ◌∙◌, arith}
use Rattle.std.specs.Prelude.{is_some, slice_get, slice_set}
use Rattle.std.specs.List.{swap}
use Rattle.std.proofs.lemmas.List.Edits.{swap_is}
use Rattle.std.proofs.lemmas.Option.{slice_get_past, slice_get_read}
use Rattle.pb_bytecode_program.specs.Machine.{Program}
use Rattle.pb_bytecode_program.specs.Transfer.{AbstractState, Flow, abstract_pop_bool, to_next_place, transfer}
use Rattle.pb_bytecode_program.specs.Accepted.{Table, state_at}
use Rattle.pb_bytecode_program.specs.declared.instruction.Op.{Op}
use Rattle.pb_bytecode_program.specs.declared.instruction.Op.TheVariants as op
use Rattle.pb_bytecode_program.specs.declared.domain.AbstractValue.{AbstractValue}
use Rattle.pb_bytecode_program.specs.declared.domain.AbstractValue.TheVariants as abstract
use Rattle.pb_verifier_states.specs.Join.{join_states}
use Rattle.pb_verifier.specs.Pass.{Homes, innermost, merge_edges, merge_state, then_table, visited}

pub set_twice : (t : Table) (to : ℕ) (x y : Option AbstractState) → slice_set (slice_set t to x) to y ≡ slice_set t to y
set_twice [] to x y = refl
set_twice (z ∷ t) zero x y = refl
set_twice (z ∷ t) (suc to) x y = ap (λ (u : Table). z ∷ u) (set_twice t to x y)

-- nothing was known there
pub first_there : (t : Table) (to : ℕ) (s : AbstractState) (x y : Option AbstractState) → to < length t
    → get_or t to x ≡ x → x ≡ None → merge_state t to s ≡ Some (slice_set (slice_set t to y) to (Some s))
first_there t to s x y l e n = rw (slice_get_read t (length t) to x refl l (sym e), n, set_twice t to y (Some s)) refl

-- what was known there joins with the state
pub joined_there : (t : Table) (to : ℕ) (s k m : AbstractState) (x : Option AbstractState) → to < length t
    → get_or t to x ≡ x → x ≡ Some k → join_states k s ≡ Some m → merge_state t to s ≡ Some (slice_set t to (Some m))
joined_there t to s k m x l e n j = rw (slice_get_read t (length t) to x refl l (sym e), n, j) refl

-- it does not
pub apart_there : (t : Table) (to : ℕ) (s k : AbstractState) (x : Option AbstractState) → to < length t → get_or t to x ≡ x → x ≡ Some k → join_states k s ≡ None → merge_state t to s ≡ None
apart_there t to s k x l e n j = rw (slice_get_read t (length t) to x refl l (sym e), n, j) refl

-- ---- moves

got : (t : Table) (i : ℕ) (d : Option AbstractState) (k : AbstractState) → state_at t i ≡ Some k → get_or t i d ≡ Some k
got [] i d k e = cc
got (x ∷ t) zero d k e = e
got (x ∷ t) (suc i) d k e = got t i d k e

get_elsewhere : (t : Table) (i j : ℕ) (o : Option AbstractState) → (j ≡ i → ⊥) → slice_get (slice_set t i o) j ≡ slice_get t j
get_elsewhere [] i j o h = refl
get_elsewhere (x ∷ t) zero zero o h = absurd (h refl)
get_elsewhere (x ∷ t) zero (suc j) o h = refl
get_elsewhere (x ∷ t) (suc i) zero o h = refl
get_elsewhere (x ∷ t) (suc i) (suc j) o h = get_elsewhere t i j o (λ e. h (ap suc e))

-- a state that trades places with nothing
pub swapped : (t : Table) (from to : ℕ) (k : AbstractState) (x : Option AbstractState) → from < length t → to < length t
    → get_or t to x ≡ x → x ≡ None → state_at t from ≡ Some k → merge_state (slice_set t from None) to k ≡ Some (swap t from to)
swapped t from to k x lf lt e n f =
    let there : slice_get t to ≡ Some None = slice_get_read t (length t) to x refl lt (sym e) ∙ ap Some n in
    let apart : to ≡ from → ⊥ = λ same. differ (rw same at there) in
    let moved : slice_set (slice_set t from None) to (Some k) ≡ swap t from to = rw (sym (swap_is t from to x lf lt), e, n, got t from None k f) refl in
    rw (get_elsewhere t from to None apart, there) (ap Some moved)
  where
    differ : slice_get t from ≡ Some None → ⊥
    differ h = let g : state_at t from ≡ None = rw h refl in cc

-- ---- what is known at a place flows on

unreached : (t : Table) (q : ℕ) → state_at t q ≡ None → slice_set t q None ≡ t
unreached [] q e = refl
unreached (x ∷ t) zero e = ap (λ (y : Option AbstractState). y ∷ t) (sym e)
unreached (x ∷ t) (suc q) e = ap (λ (u : Table). x ∷ u) (unreached t q e)

pub unknown_past : (t : Table) (q : ℕ) → length t ≤ q → state_at t q ≡ None
unknown_past t q l = rw (slice_get_past t q l) refl

-- what is read at a place
pub known_at : (t : Table) (q : ℕ) (x : Option AbstractState) (k : AbstractState) → q < length t → get_or t q x ≡ x → x ≡ Some k → state_at t q ≡ Some k
known_at t q x k l e n = rw (slice_get_read t (length t) q x refl l (sym e)) n

-- what is written there
pub written : (t : Table) (q : ℕ) (k : AbstractState) → q < length t → state_at (slice_set t q (Some k)) q ≡ Some k
written [] q k l = absurd (omega arith)
written (x ∷ t) zero k l = refl
written (x ∷ t) (suc q) k l = written t q k (omega arith)

pub nothing_known : (o : Option AbstractState) → is_some o ≡ false → o ≡ None
nothing_known None e = refl
nothing_known (Some k) e = cc

-- a place that no way reaches
pub flows_nowhere : (p : Program) (q : ℕ) (i : Op) (homes : Homes) (t : Table) → state_at t q ≡ None → visited p q i (state_at t q) homes (slice_set t q None) ≡ Some t
flows_nowhere p q i homes t e = rw (unreached t q e, e) refl

-- the same, where nothing is read and written back
pub nothing_flows : (p : Program) (q : ℕ) (i : Op) (homes : Homes) (t : Table) (x : Option AbstractState) → q < length t → get_or t q x ≡ x → x ≡ None
    → visited p q i (state_at t q) homes (slice_set t q None) ≡ Some (slice_set t q x)
nothing_flows p q i homes t x l e n = rw (slice_get_read t (length t) q x refl l (sym e), n) refl

one_edge : (u : Option Table) → then_table u (λ v. merge_edges v []) ≡ u
one_edge None = refl
one_edge (Some v) = refl

-- to the target of a jump
pub flows_to_target : (p : Program) (q to : ℕ) (homes : Homes) (t : Table) (k : AbstractState) (u : Option Table) → state_at t q ≡ Some k
    → merge_state (slice_set t q None) to k ≡ u → visited p q (op.Jump to) (state_at t q) homes (slice_set t q None) ≡ u
flows_to_target p q to homes t k u e m = rw (e, m) (one_edge u)

-- to the next place alone
pub flows_alone : (p : Program) (q : ℕ) (i : Op) (homes : Homes) (t : Table) (k n : AbstractState) (u : Option Table) → state_at t q ≡ Some k
    → transfer p (innermost homes) q i k ≡ to_next_place q n → merge_state (slice_set t q None) (q + 1) n ≡ u
    → visited p q i (state_at t q) homes (slice_set t q None) ≡ u
flows_alone p q i homes t k n u e f m = rw (e, f, m) (one_edge u)

-- nowhere, for its rule fails
pub flows_not : (p : Program) (q : ℕ) (i : Op) (homes : Homes) (t : Table) (k : AbstractState) → state_at t q ≡ Some k
    → transfer p (innermost homes) q i k ≡ None → visited p q i (state_at t q) homes (slice_set t q None) ≡ None
flows_not p q i homes t k e f = rw (e, f) refl

-- to the next place and to the target, if both join
pub flows_both : (p : Program) (q : ℕ) (on : Bool) (to : ℕ) (homes : Homes) (t v : Table) (k n : AbstractState) (u : Option Table) → state_at t q ≡ Some k
    → k ≡ record n { operands = abstract.Bool ∷ n.operands } → merge_state (slice_set t q None) (q + 1) n ≡ Some v → merge_state v to n ≡ u
    → visited p q (op.JumpIf on to) (state_at t q) homes (slice_set t q None) ≡ u
flows_both p q on to homes t v k n u e f g h = rw (e, f, g, h) (one_edge u)

-- the first doesn't join
pub flows_neither : (p : Program) (q : ℕ) (on : Bool) (to : ℕ) (homes : Homes) (t : Table) (k n : AbstractState) → state_at t q ≡ Some k
    → k ≡ record n { operands = abstract.Bool ∷ n.operands } → merge_state (slice_set t q None) (q + 1) n ≡ None
    → visited p q (op.JumpIf on to) (state_at t q) homes (slice_set t q None) ≡ None
flows_neither p q on to homes t k n e f g = rw (e, f, g) refl

-- there is no truth value
pub no_condition : (p : Program) (q : ℕ) (on : Bool) (to : ℕ) (homes : Homes) (t : Table) (k : AbstractState) → state_at t q ≡ Some k
    → ((go : List AbstractValue → Flow) → abstract_pop_bool k.operands go ≡ None)
    → visited p q (op.JumpIf on to) (state_at t q) homes (slice_set t q None) ≡ None
no_condition p q on to homes t k e f = rw (e, f _) refl
