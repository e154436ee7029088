-- Which places of the code are reached, with how many operands and open brackets, as if every test
-- of a truth value or of a range could go both ways and each loop were left after one turn; and how
-- many loops stand around a place.
use Rattle.std.specs.Prelude.{◌≡◌, ◌<◌, ◌≤◌, ◌⊎◌, ℕ, zero, suc, ◌+◌, Some, length}
use Rattle.std.specs.List.{All, slice_get}
use Rattle.pb_text_meaning.specs.Syntax.{Equation, Spec}
use Rattle.pb_bytecode_program.specs.Counts.{loops_around}
use Rattle.pb_bytecode_program.specs.Machine.{Program}
use Rattle.pb_bytecode_program.specs.declared.instruction.Op.{Op}
use Rattle.pb_bytecode_program.specs.declared.instruction.Op.TheVariants as op
use Rattle.pb_normal.specs.Equations.{normal_equation}
use Rattle.pb_normal.specs.Normal.{Formula}
use Rattle.pb_assembler_scheme.specs.Correct.{HasFullCalls, IsCompiled}
use Rattle.pb_assembler_scheme.specs.Scheme.{head, parameters}
use Rattle.pb_assembler_scheme.specs.Limits.{formula_brackets, formula_loops, formula_operands}
use Rattle.pb_assembler_scheme.specs.Made.{IsMadeOf}

-- a place, and what is held there
pub record Height : Type 0 where
  pub place : ℕ
  pub operands : ℕ
  pub brackets : ℕ

-- ---- what instructions do

-- how many operands an instruction takes off
abbrev pub taken : Program → Op → ℕ
taken p op.Pop = 1
taken p (op.Arithmetic c) = 2
taken p op.Negate = 1
taken p op.Absolute = 1
taken p (op.Compare o) = 2
taken p (op.Equality o) = 2
taken p op.Not = 1
taken p (op.Logic c) = 2
taken p (op.JumpIf on to) = 1
taken p (op.InRange low high to) = 1
taken p (op.Call equation) = length (parameters (slice_get p.callees equation))
taken p _ = 0

-- how many it pushes then; a test for a range leaves its operand
abbrev pub pushed_by : Op → ℕ
pushed_by (op.PushInt z) = 1
pushed_by (op.PushBool b) = 1
pushed_by (op.PushEnum s i) = 1
pushed_by (op.Get s) = 1
pushed_by (op.Arithmetic c) = 1
pushed_by op.Negate = 1
pushed_by op.Absolute = 1
pushed_by (op.Compare o) = 1
pushed_by (op.Equality o) = 1
pushed_by op.Not = 1
pushed_by (op.Logic c) = 1
pushed_by (op.InRange low high to) = 1
pushed_by _ = 0

abbrev pub opened : Op → ℕ
opened (op.Open c) = 1
opened _ = 0

abbrev pub closed : Op → ℕ
closed op.Close = 1
closed _ = 0

-- from one place to another: tests go both ways, and END nowhere
abbrev pub LeadsTo : Op → ℕ → ℕ → Type 0
LeadsTo op.End q r = ⊥
LeadsTo (op.Jump to) q r = r ≡ to
LeadsTo (op.JumpIf on to) q r = (r ≡ q + 1) ⊎ (r ≡ to)
LeadsTo (op.InRange low high to) q r = (r ≡ q + 1) ⊎ (r ≡ to)
LeadsTo (op.SlotInRange s low high to) q r = (r ≡ q + 1) ⊎ (r ≡ to)
LeadsTo _ q r = r ≡ q + 1

-- ---- runs

-- one instruction leads from h to k; so many operands are left below those that it takes off
pub record LeadsToHeight (p : Program) (h k : Height) : Type 0 where
  pub instruction : Op
  pub there : slice_get p.code h.place ≡ Some instruction
  pub place : LeadsTo instruction h.place k.place
  pub left : ℕ
  pub before : h.operands ≡ left + taken p instruction
  pub after : k.operands ≡ left + pushed_by instruction
  pub brackets : k.brackets + closed instruction ≡ h.brackets + opened instruction

-- after so many instructions, from the first place on
abbrev pub IsReachedIn : Program → ℕ → Height → Type 0
IsReachedIn p zero h = (h.place ≡ 0) × (h.operands ≡ 0) × (h.brackets ≡ 0)
IsReachedIn p (suc n) h = (g : Height) × IsReachedIn p n g × LeadsToHeight p g h

abbrev pub ReachesHeight : Program → Height → Type 0
ReachesHeight p h = (n : ℕ) × IsReachedIn p n h

-- some place is reached with so many operands, or with so many brackets
abbrev pub HoldsOperands : Program → ℕ → Type 0
HoldsOperands p n = (h : Height) × ReachesHeight p h × (h.operands ≡ n)

abbrev pub HoldsBrackets : Program → ℕ → Type 0
HoldsBrackets p n = (h : Height) × ReachesHeight p h × (h.brackets ≡ n)

-- ---- the scheme's programs, each of whose calls has an argument for each parameter

pub record IsFullProgram (p : Program) (f : Formula) : Type 0 where
  pub compiled : IsCompiled p f
  pub calls : HasFullCalls p.callees f

-- the greatest number that is held somewhere, of operands and of brackets
pub record AreMostOperands (p : Program) (n : ℕ) : Type 0 where
  pub held : HoldsOperands p n
  pub most : (h : Height) → ReachesHeight p h → h.operands ≤ n

pub record AreMostBrackets (p : Program) (n : ℕ) : Type 0 where
  pub held : HoldsBrackets p n
  pub most : (h : Height) → ReachesHeight p h → h.brackets ≤ n

-- so many loops stand around some place
abbrev pub HoldsLoops : Program → ℕ → Type 0
HoldsLoops p n = (q : ℕ) × (q < length p.code) × (length (loops_around p.code q) ≡ n)

-- the greatest number of loops around a place
pub record AreMostLoops (p : Program) (n : ℕ) : Type 0 where
  pub held : HoldsLoops p n
  pub most : (q : ℕ) → q < length p.code → length (loops_around p.code q) ≤ n

-- they are what is counted on the right side
abbrev pub OperandsAreCounted : Type 0
OperandsAreCounted =
    (p : Program) (f : Formula) → IsFullProgram p f → AreMostOperands p (formula_operands f)

abbrev pub BracketsAreCounted : Type 0
BracketsAreCounted =
    (p : Program) (f : Formula) → IsFullProgram p f
    → AreMostBrackets p (suc (formula_brackets (head f) f))

abbrev pub LoopsAreCounted : Type 0
LoopsAreCounted =
    (p : Program) (f : Formula) → IsCompiled p f → AreMostLoops p (formula_loops f)

-- so for each equation of a text
pub record HoldsWhatIsCounted (p : Program) (f : Formula) : Type 0 where
  pub operands : AreMostOperands p (formula_operands f)
  pub brackets : AreMostBrackets p (suc (formula_brackets (head f) f))
  pub loops : AreMostLoops p (formula_loops f)

abbrev pub HoldWhatIsCounted : Spec → Type 0
HoldWhatIsCounted spec =
    All (λ (X : Equation). (p : Program) → IsMadeOf spec X p
    → HoldsWhatIsCounted p (normal_equation spec X)) spec.equations
