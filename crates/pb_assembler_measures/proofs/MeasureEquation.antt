-- The measures of an equation's program are those of its right side, in its outermost bracket and with END behind it.
use Rattle.std.proofs.Common.{◌≡◌, ℕ, ◌+◌, List, map, length, sym, ap, ◌∙◌, subst, arith}
use Rattle.pb_sorts.specs.declared.carrier.Carrier.{Carrier}
use Rattle.pb_bytecode_program.specs.Machine.{Program}
use Rattle.pb_bytecode_program.specs.Counts.{static_steps, static_tokens}
use Rattle.pb_normal.specs.Normal.{Formula}
use Rattle.pb_normal.specs.View.{formula_view, shapes_of}
use Rattle.pb_normal.specs.declared.normal.Equation.{Equation}
use Rattle.pb_assembler_scheme.specs.Scheme.{equation_piece, head}
use Rattle.pb_assembler_scheme.specs.Correct.{IsCompiled}
use Rattle.pb_assembler_scheme.proofs.Slots.{program-slots}
use Rattle.pb_assembler_scheme.specs.Limits.{formula_operands, formula_brackets, formula_loops}
use Rattle.pb_assembler_scheme.proofs.Weights.{code_long, steps_weighed, tokens_weighed}
use Rattle.pb_assembler_measures.specs.declared.measures.Measures.{Measures}
use Rattle.pb_assembler_measures.specs.declared.measure_tally.Tally.{Tally}
use Rattle.pb_assembler_measures.specs.Measures.{AreMeasures}
use Rattle.pb_assembler_measures.specs.MeasureFormulas.{capped_tally, formula_tally}
use Rattle.pb_assembler_measures.specs.MeasureEquations.{equation_measures, IsProgram}
use Rattle.pb_assembler_measures.proofs.MeasureCosts.{Costs, equation_costs}
use Rattle.pb_assembler_measures.proofs.MeasureCounts.{Counts, formula_counts}
use Rattle.pb_assembler_measures.proofs.MeasureShapes.{tally_same}

module _ (callees : List (List Carrier)) (f : Formula) (p : Program) (compiled : IsCompiled p f) (same : map shapes_of p.callees ≡ map shapes_of callees) where
  abbrev tally : Tally
  tally = formula_tally callees (head f) f

  costs : Costs p (equation_piece p.callees f) (3 + tally.instructions) (3 + tally.steps) (2 + tally.tokens)
  costs =
      subst (λ (t : Tally). Costs p (equation_piece p.callees f) (3 + t.instructions) (3 + t.steps) (2 + t.tokens))
      (tally_same p.callees callees same f (head f))
      (equation_costs p p.callees f (program-slots p f compiled.slots))

  code_counted : length p.code ≡ 3 + tally.instructions
  code_counted = let a = code_long p f compiled in let b = costs.places 0 in omega (arith, a, b)

  steps_counted : static_steps p ≡ 3 + tally.steps
  steps_counted = steps_weighed p f compiled ∙ costs.steps

  tokens_counted : static_tokens p ≡ 2 + tally.tokens
  tokens_counted = tokens_weighed p f compiled ∙ costs.tokens

  counts : Counts tally (formula_operands f) (formula_brackets (head f) f) (formula_loops f)
  counts = formula_counts callees f (head f)

  whole_measured : (n : ℕ) → length p.loops ≡ n → AreMeasures (equation_measures (capped_tally tally) n) p f
  whole_measured n e = record {
    instructions = let a = code_counted in omega (arith, a);
    operands = let a = counts.operands in omega (arith, a);
    brackets = let a = counts.brackets in omega (arith, a);
    nesting = let a = counts.loops in omega (arith, a);
    slots = omega (arith, e);
    steps = let a = steps_counted in omega (arith, a);
    tokens = let a = tokens_counted in omega (arith, a);
  }

pub equation_measured : (callees : List (List Carrier)) (X : Equation) (t : Tally) (m : Measures) → t ≡ capped_tally (formula_tally callees (head (formula_view X.right)) (formula_view X.right))
    → m ≡ equation_measures t (length X.loops.now) → (p : Program) → IsProgram callees X p → AreMeasures m p (formula_view X.right)
equation_measured callees X t m e g p h =
    subst (λ (n : Measures). AreMeasures n p (formula_view X.right)) (sym (g ∙ ap (λ (u : Tally). equation_measures u (length X.loops.now)) e))
    (whole_measured callees (formula_view X.right) p h.compiled h.callees (length X.loops.now) h.loops)
