-- How loops nest: LOOP and NEXT pair like brackets, at most MAX_LOOPS deep, and the end stands in
-- no body.
use Rattle.std.specs.Prelude.{◌≡◌, ℕ, ◌<◌, List, [], ◌∷◌, length, Option, Some, None, slice_get}
use Rattle.pb_base.specs.declared.limits.TheConstants.{MAX_LOOPS}
use Rattle.pb_bytecode_program.specs.Counts.{loops_around}
use Rattle.pb_bytecode_program.specs.declared.instruction.Op.{Op}
use Rattle.pb_bytecode_program.specs.declared.instruction.Op.TheVariants as op

-- what the instruction at place q asks of the loops around it
abbrev pub NestsAt : List Op → ℕ → Op → Type 0
NestsAt code q (op.Loop i) = length (loops_around code q) < MAX_LOOPS
NestsAt code q op.Next = 0 < length (loops_around code q)
NestsAt code q op.End = loops_around code q ≡ []
NestsAt code q _ = Unit {0}

pub record IsNested (code : List Op) : Type 0 where
  pub each : (q : ℕ) (i : Op) → slice_get code q ≡ Some i → NestsAt code q i
  pub all_closed : loops_around code (length code) ≡ []

-- the first of these places, which is that of the innermost LOOP
abbrev pub innermost_of : List ℕ → Option ℕ
innermost_of [] = None
innermost_of (x ∷ xs) = Some x

-- the table has the place of the innermost LOOP around each place
pub record IsInnermost (code : List Op) (table : List (Option ℕ)) : Type 0 where
  pub long : length table ≡ length code
  pub each : (q : ℕ) → q < length code
      → slice_get table q ≡ Some (innermost_of (loops_around code q))
