-- The code of each equation of a well-typed specification holds what is counted on its right side.
use Rattle.std.proofs.Common.{zero, suc, true, List, [], ◌∷◌, arith}
use Rattle.std.specs.List.{All}
use Rattle.pb_text_meaning.specs.Syntax.{Equation, Spec}
use Rattle.pb_typing_rules.specs.Formula.{IsProper}
use Rattle.pb_typing_rules.specs.WellTyped.{parameter_scope, AreProper, IsWellTyped}
use Rattle.pb_bytecode_program.specs.Machine.{Program}
use Rattle.pb_normal.specs.Equations.{normal_equation}
use Rattle.pb_normal.specs.Normal.{Formula}
use Rattle.pb_assembler_scheme.proofs.FullCalls.{equation-full}
use Rattle.pb_assembler_scheme.specs.Scheme.{head}
use Rattle.pb_assembler_scheme.specs.Limits.{formula_brackets, formula_operands}
use Rattle.pb_assembler_scheme.specs.Made.{IsMadeOf}
use Rattle.pb_assembler_scheme.proofs.TextEquations.{program_made}
use Rattle.pb_assembler_places.specs.Reached.{AreMostBrackets, AreMostOperands, HoldsWhatIsCounted, HoldWhatIsCounted, IsFullProgram}
use Rattle.pb_assembler_places.proofs.Nesting.{most_loops}
use Rattle.pb_assembler_places.proofs.Reached.{operands_reached, brackets_reached}
use Rattle.pb_assembler_places.proofs.ReachedBounds.{operands_bounded, brackets_bounded}

pub most_operands : (p : Program) (f : Formula) → IsFullProgram p f → AreMostOperands p (formula_operands f)
most_operands p f h = record { held = operands_reached p f h.compiled h.calls; most = operands_bounded p f h.compiled h.calls }

pub most_brackets : (p : Program) (f : Formula) → IsFullProgram p f → AreMostBrackets p (suc (formula_brackets (head f) f))
most_brackets p f h = record { held = brackets_reached p f h.compiled h.calls; most = brackets_bounded p f h.compiled h.calls }

module _ (spec : Spec) where
  made_full : (X : Equation) (p : Program) → IsProper spec true (parameter_scope spec X) X.right → IsMadeOf spec X p → IsFullProgram p (normal_equation spec X)
  made_full X p proper made = record {
    compiled = made.compiled;
    calls = equation-full spec p.callees (program_made spec X p made).callees X proper;
  }

  holds : (X : Equation) (p : Program) → IsProper spec true (parameter_scope spec X) X.right → IsMadeOf spec X p → HoldsWhatIsCounted p (normal_equation spec X)
  holds X p proper made =
      let full = made_full X p proper made in record {
        operands = most_operands p (normal_equation spec X) full;
        brackets = most_brackets p (normal_equation spec X) full;
        loops = most_loops p (normal_equation spec X) made.compiled;
      }

  each_holds : (E : List Equation) → AreProper spec E → All (λ (X : Equation). (p : Program) → IsMadeOf spec X p → HoldsWhatIsCounted p (normal_equation spec X)) E
  each_holds [] proper k d below = absurd (omega arith)
  each_holds (X ∷ E) proper zero d below = λ p made. holds X p proper.0 made
  each_holds (X ∷ E) proper (suc k) d below = each_holds E proper.1 k d (omega arith)

pub texts_hold : (spec : Spec) → IsWellTyped spec → HoldWhatIsCounted spec
texts_hold spec typed = each_holds spec spec.equations typed.rights
