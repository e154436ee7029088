-- What is asked of code before the pass: the rules by position, and the limits within which the
-- code was decoded.
use Rattle.std.specs.Prelude.{◌≡◌, ℕ, ◌<◌, ◌≤◌, [], length, Some, slice_get}
use Rattle.pb_base.specs.declared.limits.TheConstants.{MAX_INSTRUCTIONS}
use Rattle.pb_bytecode_program.specs.Machine.{Program}
use Rattle.pb_bytecode_program.specs.Counts.{Leaves, loop_effect, loops_around}
use Rattle.pb_bytecode_program.specs.Accepted.{HasValidTarget, NamesInScope}
use Rattle.pb_bytecode_program.specs.declared.instruction.Op.{Op}
use Rattle.pb_bytecode_program.specs.Monotone.{HasOrderedRange}

-- the rules by position, which hold of each instruction whether it is reached or not
pub record IsStructured (p : Program) : Type 0 where
  pub placed : (q : ℕ) (i : Op) → slice_get p.code q ≡ Some i → HasValidTarget p q i
  pub sited : (q : ℕ) (i : Op) → slice_get p.code q ≡ Some i → NamesInScope p q i
  pub all_closed : loops_around p.code (length p.code) ≡ []
  pub closes : (q : ℕ) (i : Op) → slice_get p.code q ≡ Some i → loop_effect i ≡ Leaves
      → 0 < length (loops_around p.code q)

-- there are 1 to MAX_INSTRUCTIONS instructions, and the bounds of range tests are in order
pub record IsProgramWithinLimits (p : Program) : Type 0 where
  pub some : 0 < length p.code
  pub short : length p.code ≤ MAX_INSTRUCTIONS
  pub bounds : (q : ℕ) (i : Op) → slice_get p.code q ≡ Some i → HasOrderedRange i
