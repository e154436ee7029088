-- One place of the pass.
use Rattle.std.proofs.lemmas.Option.{slice_get-get_or}
use Rattle.std.proofs.Common.{◌≡◌, ℕ, ◌+◌, ◌<◌, ◌≤◌, ◌∙◌, get_or, Bool, true, false, List, [], ◌∷◌, length, drop, Option, Some, None, refl, sym, ap}
use Rattle.std.specs.Prelude.{Result, Ok, Err, OnErr, OnOk, slice_get, slice_set}
use Rattle.std.proofs.lemmas.List.{drop_all}
use Rattle.pb_sorts.proofs.Places.{drop-slice_get}
use Rattle.pb_bytecode_program.specs.Counts.{loop_effect}
use Rattle.pb_bytecode_program.specs.Machine.{Program}
use Rattle.pb_bytecode_program.specs.Transfer.{AbstractState, transfer}
use Rattle.pb_bytecode_program.specs.Accepted.{Table, state_at}
use Rattle.pb_bytecode_program.specs.declared.instruction.Op.{Op}
use Rattle.pb_verifier.specs.Pass.{Homes, homes_after, innermost, merge_edges, passes, code_passes, initial_table, then_table, visited}

-- what is known flows on
pub known_flows : (p : Program) (q : ℕ) (i : Op) (o : Option AbstractState) (k : AbstractState)
    (home : Option AbstractState) (homes : Homes) (t : Table) (u : Option Table) → o ≡ Some k → home ≡ innermost homes
    → then_table (transfer p home q i k) (merge_edges t) ≡ u → visited p q i o homes t ≡ u
known_flows p q i o k home homes t u e h r = rw (e, sym h) r

-- ---- what follows of results

pub where_ok : {E : Type 0} {P Q : Type 0} → (r : Result (Unit {0}) E) → (P → Q) → OnOk r P → OnOk r Q
where_ok (Ok x) f h = f h
where_ok (Err e) f h = h

pub where_err : {E : Type 0} {P Q : Type 0} → (r : Result (Unit {0}) E) → (P → Q) → OnErr r P → OnErr r Q
where_err (Ok x) f h = h
where_err (Err e) f h = f h

-- ---- the instructions that are left

-- the instruction at a place
pub op_here : (items code : List Op) (q : ℕ) (d : Op) → items ≡ code → q < length items → slice_get code q ≡ Some (get_or items q d)
op_here items code q d e l = sym (ap (λ (x : List Op). slice_get x q) e) ∙ slice_get-get_or items q d l

-- at the start
pub passes_begin : (p : Program) (homes : Homes) (t : Table) → homes ≡ [] → t ≡ initial_table p → passes p 0 (drop 0 p.code) homes t ≡ code_passes p
passes_begin p homes t h e = rw (h, e, drop_none p.code) refl
  where
    drop_none : (code : List Op) → drop 0 code ≡ code
    drop_none [] = refl
    drop_none (j ∷ code) = refl

-- where a place is visited, the pass goes on behind it
pub passes_next : (p : Program) (code : List Op) (q : ℕ) (i : Op) (homes after : Homes) (t u : Table) (all : Bool)
    → slice_get code q ≡ Some i → visited p q i (state_at t q) homes (slice_set t q None) ≡ Some u
    → after ≡ homes_after (loop_effect i) (state_at t q) homes → passes p q (drop q code) homes t ≡ all
    → passes p (q + 1) (drop (q + 1) code) after u ≡ all
passes_next p code q i homes after t u all e v h so_far =
    let here : passes p q (drop q code) homes t ≡ passes p (q + 1) (drop (q + 1) code) after u = rw (drop-slice_get code q i e, v, h) refl in
    sym here ∙ so_far

-- where it is refused, the pass refuses the code
pub passes_not : (p : Program) (code : List Op) (q : ℕ) (i : Op) (homes : Homes) (t : Table) (all : Bool)
    → slice_get code q ≡ Some i → visited p q i (state_at t q) homes (slice_set t q None) ≡ None
    → passes p q (drop q code) homes t ≡ all → all ≡ false
passes_not p code q i homes t all e v so_far =
    let here : passes p q (drop q code) homes t ≡ false = rw (drop-slice_get code q i e, v) refl in
    sym so_far ∙ here

-- behind the last place it ends
pub passes_end : (p : Program) (code : List Op) (q : ℕ) (homes : Homes) (t : Table) (all : Bool) → length code ≤ q → passes p q (drop q code) homes t ≡ all → all ≡ true
passes_end p code q homes t all l so_far =
    let here : passes p q (drop q code) homes t ≡ true = rw (drop_all q code l) refl in
    sym so_far ∙ here
