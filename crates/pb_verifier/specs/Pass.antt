-- One pass over code, from its first place to its last: what is known at each place flows to later
-- ones, where it is joined with what flows there from elsewhere. What was known at a place is given
-- up once it has flowed on.
use Rattle.std.specs.Prelude.{ℕ, ◌+◌, Bool, true, false, List, [], ◌∷◌, length, replicate, Option}
use Rattle.std.specs.Prelude.{Some, None, slice_get, slice_set}
use Rattle.pb_bytecode_program.specs.Machine.{Program}
use Rattle.pb_bytecode_program.specs.Counts.{LoopEffect, Enters, Leaves, Straight, loop_effect}
use Rattle.pb_bytecode_program.specs.Transfer.{AbstractState, Edge, transfer}
use Rattle.pb_bytecode_program.specs.Accepted.{Table, state_at, entry}
use Rattle.pb_bytecode_program.specs.declared.instruction.Op.{Op}
use Rattle.pb_verifier_states.specs.Join.{join_states}

abbrev pub put : Table → ℕ → Option AbstractState → Option Table
put t to None = None
put t to (Some k) = Some (slice_set t to (Some k))

-- a state joined into what is known at a place: none where the place isn't there, or where they
-- don't join
abbrev pub joined_at : Table → ℕ → Option (Option AbstractState) → AbstractState → Option Table
joined_at t to None s = None
joined_at t to (Some None) s = Some (slice_set t to (Some s))
joined_at t to (Some (Some k)) s = put t to (join_states k s)

abbrev pub merge_state : Table → ℕ → AbstractState → Option Table
merge_state t to s = joined_at t to (slice_get t to) s

abbrev pub then_table : {A B : Type 0} → Option A → (A → Option B) → Option B
then_table None f = None
then_table (Some x) f = f x

abbrev pub merge_edges : Table → List Edge → Option Table
merge_edges t [] = Some t
merge_edges t (e ∷ es) = then_table (merge_state t e.to e.state) (λ u. merge_edges u es)

-- ---- what is known at the LOOPs around, the innermost first

abbrev pub Homes : Type 0
Homes = List (Option AbstractState)

abbrev pub innermost : Homes → Option AbstractState
innermost [] = None
innermost (h ∷ homes) = h

abbrev pub homes_after : LoopEffect → Option AbstractState → Homes → Homes
homes_after (Enters i) o homes = o ∷ homes
homes_after Leaves o [] = []
homes_after Leaves o (h ∷ homes) = homes
homes_after Straight o homes = homes

-- ---- the pass

-- what is known at the place flows on; a place that no way reaches is passed over
abbrev pub visited : Program → ℕ → Op → Option AbstractState → Homes → Table → Option Table
visited p q i None homes t = Some t
visited p q i (Some k) homes t = then_table (transfer p (innermost homes) q i k) (merge_edges t)

abbrev pub passes_on : Option Table → (Table → Bool) → Bool
passes_on None rest = false
passes_on (Some t) rest = rest t

-- these instructions, the first of them at place q
abbrev pub passes : Program → ℕ → List Op → Homes → Table → Bool
passes p q [] homes t = true
passes p q (i ∷ is) homes t =
    passes_on (visited p q i (state_at t q) homes (slice_set t q None))
    (passes p (q + 1) is (homes_after (loop_effect i) (state_at t q) homes))

-- at the start the first place alone is known
abbrev pub initial_table : Program → Table
initial_table p = slice_set (replicate (length p.code) None) 0 (Some (entry p))

-- the whole code
abbrev pub code_passes : Program → Bool
code_passes p = passes p 0 p.code [] (initial_table p)
