use Rattle.std.proofs.Common.{◌≡◌, ◌+◌, drop}
use Rattle.pb_text_meaning.specs.Syntax.{Spec}
use Rattle.pb_typing_tree.specs.Meaning.{truth}
use Rattle.pb_typing_tree.specs.View.{formula_view}
use Rattle.pb_typing_tree.proofs.FormulaWeight.{weight}
use Rattle.pb_typing_values.specs.Environment.{IsLaidOut, environment_of}
use Rattle.pb_typing_values.specs.Slots.{slots_of}
use Rattle.pb_typing_values.proofs.FormulaLinks.{chain_truth}
use Rattle.pb_typing_values.proofs.Turns.{IsUnderWay, left_of}
use Rattle.pb_typing_values.proofs.formula.+formulas.Given as goal

abbrev pub decreases-formula_truth : goal.decreases-formula_truth
decreases-formula_truth l = weight l.formula.now

abbrev pub decreases-quantified : goal.decreases-quantified
decreases-quantified l = 1 + weight l.body.now

-- the operands that are left, behind the one whose truth is known, have the chain's truth
abbrev pub invariant-formula_truth-loop-link : goal.invariant-formula_truth-loop-link
invariant-formula_truth-loop-link l = record {
  kept : l.slots ≡ l.fn.slots;
  truth : (S : Spec) → IsLaidOut S l.environment.layout.now
      → chain_truth S (slots_of l.fn.slots) (environment_of S l.environment.truths.now) l.connective l.current (drop l.link-index l.link-items)
      ≡ truth S (slots_of l.fn.slots) (environment_of S l.environment.truths.now) (formula_view l.formula);
}

-- no tuple before the present one decides
abbrev pub invariant-quantified-loop-quantifier : goal.invariant-quantified-loop-quantifier
invariant-quantified-loop-quantifier l =
    IsUnderWay l.environment.layout.now l.environment.truths.now l.quantifier (formula_view l.body) l.loops.carriers.now l.loops.slot l.fn.slots l.slots

abbrev pub decreases-quantified-loop-quantifier : goal.decreases-quantified-loop-quantifier
decreases-quantified-loop-quantifier l = left_of l.loops.carriers.now l.loops.slot l.slots
