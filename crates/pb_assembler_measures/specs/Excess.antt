-- Which limit of the machine a program exceeds first, and what it is for a text to be refused by
-- it.
use Rattle.std.specs.Prelude.{◌≡◌, ℕ, ◌<◌, true, false, Some}
use Rattle.std.specs.List.{slice_get}
use Rattle.pb_text_meaning.specs.Syntax.{Equation, Spec}
use Rattle.pb_bytecode.specs.declared.limit.Limit.{Limit}
use Rattle.pb_bytecode.specs.declared.limit.Limit.TheVariants as limit
use Rattle.pb_bytecode_program.specs.Machine.{Program}
use Rattle.pb_normal.specs.Normal.{Formula}
use Rattle.pb_normal.specs.Equations.{normal_equation}
use Rattle.pb_assembler_scheme.specs.Limits.{exceeds, KeepsLimits}
use Rattle.pb_assembler_scheme.specs.Made.{IsMadeOf}
use Rattle.pb_assembler_measures.specs.declared.compile_error.Excess.{Excess}

-- the limits in order, the first one `C01`
abbrev pub order : Limit → ℕ
order limit.Instructions = 1
order limit.Operands = 2
order limit.Brackets = 3
order limit.Loops = 4
order limit.Steps = 5
order limit.Tokens = 6

-- the program of this right side exceeds this limit, and none before it
pub record ExceedsFirst (p : Program) (f : Formula) (l : Limit) : Type 0 where
  pub exceeded : exceeds p f l ≡ true
  pub earlier : (k : Limit) → order k < order l → exceeds p f k ≡ false

-- this equation is the first whose program exceeds a limit, and the limit is the first that it
-- exceeds
pub record IsFirstExcess (spec : Spec) (excess : Excess) : Type 0 where
  pub equation : Equation
  pub there : slice_get spec.equations excess.equation ≡ Some equation
  pub program : Program
  pub made : IsMadeOf spec equation program
  pub exceeds : ExceedsFirst program (normal_equation spec equation) excess.limit
  pub earlier :
      (j : ℕ) (X : Equation) → j < excess.equation → slice_get spec.equations j ≡ Some X
      → (p : Program) → IsMadeOf spec X p → KeepsLimits p (normal_equation spec X)
