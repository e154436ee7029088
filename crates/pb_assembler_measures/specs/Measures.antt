-- What is measured of an equation's code, each number no further than just above its limit.
use Rattle.std.specs.Prelude.{◌≡◌, suc, nat_lt, Bool, ◌||◌, List, [], ◌∷◌, length, min, Option}
use Rattle.std.specs.List.{find}
use Rattle.pb_base.specs.declared.limits.TheConstants.{MAX_LOOP_SLOTS, MAX_INSTRUCTIONS}
use Rattle.pb_base.specs.declared.limits.TheConstants.{MAX_OPERANDS, MAX_BRACKETS, MAX_LOOPS, MAX_STEPS, MAX_TOKENS}
use Rattle.pb_bytecode_program.specs.Machine.{Program}
use Rattle.pb_bytecode_program.specs.Counts.{static_steps, static_tokens}
use Rattle.pb_bytecode.specs.declared.limit.Limit.{Limit}
use Rattle.pb_bytecode.specs.declared.limit.Limit.TheVariants as limit
use Rattle.pb_normal.specs.Normal.{Formula}
use Rattle.pb_assembler_scheme.specs.Scheme.{head}
use Rattle.pb_assembler_scheme.specs.Limits.{formula_operands, formula_brackets, formula_loops}
use Rattle.pb_assembler_measures.specs.declared.measures.Measures.{Measures}

pub record AreMeasures (m : Measures) (p : Program) (f : Formula) : Type 0 where
  pub instructions : m.instructions ≡ min (length p.code) (suc MAX_INSTRUCTIONS)
  pub operands : m.operands ≡ min (formula_operands f) (suc MAX_OPERANDS)
  pub brackets : m.brackets ≡ min (suc (formula_brackets (head f) f)) (suc MAX_BRACKETS)
  pub nesting : m.nesting ≡ min (formula_loops f) (suc MAX_LOOPS)
  pub slots : m.slots ≡ min (length p.loops) (suc MAX_LOOP_SLOTS)
  pub steps : m.steps ≡ min (static_steps p) (suc MAX_STEPS)
  pub tokens : m.tokens ≡ min (static_tokens p) (suc MAX_TOKENS)

-- the limits in the order of their numbers
abbrev pub limits : List Limit
limits =
    limit.Instructions ∷ limit.Operands ∷ limit.Brackets ∷ limit.Loops ∷ limit.Steps
    ∷ limit.Tokens ∷ []

abbrev pub are_above : Measures → Limit → Bool
are_above m limit.Instructions = nat_lt MAX_INSTRUCTIONS m.instructions
are_above m limit.Operands = nat_lt MAX_OPERANDS m.operands
are_above m limit.Brackets = nat_lt MAX_BRACKETS m.brackets
are_above m limit.Loops = nat_lt MAX_LOOPS m.nesting || nat_lt MAX_LOOP_SLOTS m.slots
are_above m limit.Steps = nat_lt MAX_STEPS m.steps
are_above m limit.Tokens = nat_lt MAX_TOKENS m.tokens

abbrev pub first_excess : Measures → Option Limit
first_excess m = find (are_above m) limits
