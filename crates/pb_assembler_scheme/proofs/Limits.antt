-- What it is to exceed no limit, as bounds on numbers.
use Rattle.std.proofs.Common.{suc, ◌≤◌, Bool, false, ◌≡◌, ◌||◌, length}
use Rattle.std.specs.Prelude.{nat_lt}
use Rattle.std.proofs.lemmas.Bool.{ltb-false, le-ltb, or_parts}
use Rattle.pb_base.specs.declared.limits.TheConstants.{MAX_LOOP_SLOTS, MAX_INSTRUCTIONS}
use Rattle.pb_base.specs.declared.limits.TheConstants.{MAX_OPERANDS, MAX_BRACKETS, MAX_LOOPS, MAX_STEPS, MAX_TOKENS}
use Rattle.pb_bytecode_program.specs.Machine.{Program}
use Rattle.pb_bytecode_program.specs.Counts.{static_steps, static_tokens}
use Rattle.pb_bytecode.specs.declared.limit.Limit.{Limit}
use Rattle.pb_bytecode.specs.declared.limit.Limit.TheVariants as limit
use Rattle.pb_normal.specs.Normal.{Formula}
use Rattle.pb_assembler_scheme.specs.Scheme.{head}
use Rattle.pb_assembler_scheme.specs.Limits.{formula_operands, formula_brackets, formula_loops, exceeds, KeepsLimits}

pub record IsWithinLimits (p : Program) (f : Formula) : Type 0 where
  pub instructions : length p.code ≤ MAX_INSTRUCTIONS
  pub operands : formula_operands f ≤ MAX_OPERANDS
  pub brackets : suc (formula_brackets (head f) f) ≤ MAX_BRACKETS
  pub nesting : formula_loops f ≤ MAX_LOOPS
  pub slots : length p.loops ≤ MAX_LOOP_SLOTS
  pub steps : static_steps p ≤ MAX_STEPS
  pub tokens : static_tokens p ≤ MAX_TOKENS

neither : (a b : Bool) → a ≡ false → b ≡ false → (a || b) ≡ false
neither a b e f = cc

module _ (p : Program) (f : Formula) where
  pub within_limits : KeepsLimits p f → IsWithinLimits p f
  within_limits k =
      let loops = or_parts (nat_lt MAX_LOOPS (formula_loops f)) (nat_lt MAX_LOOP_SLOTS (length p.loops)) (k.none limit.Loops) in
      record {
        instructions = ltb-false MAX_INSTRUCTIONS (length p.code) (k.none limit.Instructions);
        operands = ltb-false MAX_OPERANDS (formula_operands f) (k.none limit.Operands);
        brackets = ltb-false MAX_BRACKETS (suc (formula_brackets (head f) f)) (k.none limit.Brackets);
        nesting = ltb-false MAX_LOOPS (formula_loops f) loops.0;
        slots = ltb-false MAX_LOOP_SLOTS (length p.loops) loops.1;
        steps = ltb-false MAX_STEPS (static_steps p) (k.none limit.Steps);
        tokens = ltb-false MAX_TOKENS (static_tokens p) (k.none limit.Tokens);
      }

  none_exceeded : IsWithinLimits p f → (l : Limit) → exceeds p f l ≡ false
  none_exceeded h limit.Instructions = le-ltb MAX_INSTRUCTIONS (length p.code) h.instructions
  none_exceeded h limit.Operands = le-ltb MAX_OPERANDS (formula_operands f) h.operands
  none_exceeded h limit.Brackets = le-ltb MAX_BRACKETS (suc (formula_brackets (head f) f)) h.brackets
  none_exceeded h limit.Loops =
      neither (nat_lt MAX_LOOPS (formula_loops f)) (nat_lt MAX_LOOP_SLOTS (length p.loops))
      (le-ltb MAX_LOOPS (formula_loops f) h.nesting) (le-ltb MAX_LOOP_SLOTS (length p.loops) h.slots)
  none_exceeded h limit.Steps = le-ltb MAX_STEPS (static_steps p) h.steps
  none_exceeded h limit.Tokens = le-ltb MAX_TOKENS (static_tokens p) h.tokens

  pub keeps_limits : IsWithinLimits p f → KeepsLimits p f
  keeps_limits h = record { none = none_exceeded h }
