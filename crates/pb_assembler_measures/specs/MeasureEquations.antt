-- How much the code of whole equations takes.
use Rattle.std.specs.Prelude.{◌≡◌, ℕ, suc, ◌+◌, min, List, map, length, Some}
use Rattle.std.specs.List.{slice_get}
use Rattle.pb_sorts.specs.declared.carrier.Carrier.{Carrier}
use Rattle.pb_base.specs.declared.limits.TheConstants.{MAX_LOOP_SLOTS, MAX_INSTRUCTIONS}
use Rattle.pb_text_meaning.specs.Syntax as syntax
use Rattle.pb_text_meaning.specs.Syntax.{Spec}
use Rattle.pb_base.specs.declared.limits.TheConstants.{MAX_OPERANDS, MAX_BRACKETS, MAX_LOOPS, MAX_STEPS, MAX_TOKENS}
use Rattle.pb_bytecode_program.specs.Machine.{Program}
use Rattle.pb_normal.specs.Equations.{normal_equation}
use Rattle.pb_normal.specs.View.{formula_view, shapes_of}
use Rattle.pb_normal.specs.declared.normal.Equation.{Equation}
use Rattle.pb_assembler_scheme.specs.Correct.{IsCompiled}
use Rattle.pb_assembler_scheme.specs.Limits.{KeepsLimits}
use Rattle.pb_assembler_scheme.specs.Made.{IsMadeOf}
use Rattle.pb_assembler_measures.specs.declared.measures.Measures.{Measures}
use Rattle.pb_assembler_measures.specs.declared.measure_tally.Tally.{Tally}
use Rattle.pb_assembler_measures.specs.Measures.{AreMeasures}

-- a right side's, in its outermost bracket and with END behind it
abbrev pub equation_measures : Tally → (slots : ℕ) → Measures
equation_measures t slots = record {
  instructions = min (3 + t.instructions) (suc MAX_INSTRUCTIONS);
  operands = min t.operands (suc MAX_OPERANDS);
  brackets = min (1 + t.brackets) (suc MAX_BRACKETS);
  nesting = min t.nesting (suc MAX_LOOPS);
  slots = min slots (suc MAX_LOOP_SLOTS);
  steps = min (3 + t.steps) (suc MAX_STEPS);
  tokens = min (2 + t.tokens) (suc MAX_TOKENS);
}

-- the scheme's program of an equation: it has the equation's loops, and what it calls has
-- parameters of these shapes
pub record IsProgram (parameters : List (List Carrier)) (X : Equation) (p : Program) : Type 0 where
  pub compiled : IsCompiled p (formula_view X.right)
  pub loops : length p.loops ≡ length X.loops.now
  pub callees : map shapes_of p.callees ≡ map shapes_of parameters

-- these are the measures of each program of the equation
abbrev pub AreMeasuresOf : Measures → List (List Carrier) → Equation → Type 0
AreMeasuresOf m parameters X =
    (p : Program) → IsProgram parameters X p → AreMeasures m p (formula_view X.right)

-- the code of each of a text's equations keeps the machine's limits
abbrev pub EachKeepsLimits : Spec → Type 0
EachKeepsLimits spec =
    (k : ℕ) (X : syntax.Equation) → slice_get spec.equations k ≡ Some X
    → (p : Program) → IsMadeOf spec X p → KeepsLimits p (normal_equation spec X)

-- these are the measures of the equations, one for each
pub record AreMeasuresOfAll
    (parameters : List (List Carrier)) (E : List Equation) (ms : List Measures) : Type 0 where
  pub long : length ms ≡ length E
  pub each :
      (k : ℕ) (X : Equation) (m : Measures) → slice_get E k ≡ Some X → slice_get ms k ≡ Some m
      → AreMeasuresOf m parameters X
