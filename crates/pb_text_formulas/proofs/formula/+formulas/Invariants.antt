use Rattle.std.proofs.Common.{ℕ, ◌≡◌, ◌+◌, ◌*◌, ◌-◌, ◌≤◌, length, vec_len}
use Rattle.pb_text_tree.specs.declared.operator.Connective.{Connective}
use Rattle.pb_text_tree.specs.declared.operator.Connective.TheVariants.{And, Or, Implies}
use Rattle.pb_text_tree.specs.Form.{FormulaForm, link_forms}
use Rattle.pb_text_lexer.specs.Grammar.{State}
use Rattle.pb_text_lexer.proofs.LoopLemmas.{resumed}
use Rattle.pb_text_terms.specs.Operators.{symbol_kind}
use Rattle.pb_text_terms.specs.Readers.{HasRead}
use Rattle.pb_text_formulas.specs.Reading.{operand, level}
use Rattle.pb_text_formulas.proofs.formula.+formulas.Given as goal

abbrev rank : Connective → ℕ
rank And = 2
rank Or = 6
rank Implies = 10

abbrev pub decreases-node : goal.decreases-node
decreases-node l = l.depth * 16 + 1

abbrev pub decreases-negation : goal.decreases-negation
decreases-negation l = l.depth * 16

abbrev pub decreases-bracketed : goal.decreases-bracketed
decreases-bracketed l = l.depth * 16

abbrev pub decreases-quantified : goal.decreases-quantified
decreases-quantified l = l.depth * 16

abbrev pub decreases-operand : goal.decreases-operand
decreases-operand l = l.depth * 16 + rank l.connective

abbrev pub decreases-level : goal.decreases-level
decreases-level l = l.depth * 16 + rank l.connective + 3

abbrev pub decreases-links_behind : goal.decreases-links_behind
decreases-links_behind l = l.depth * 16 + rank l.connective + 1

abbrev pub decreases-chain : goal.decreases-chain
decreases-chain l = l.depth * 16 + rank l.connective + 2

abbrev pub decreases-chain_behind : goal.decreases-chain_behind
decreases-chain_behind l = l.depth * 16 + rank l.connective + 3

abbrev pub decreases-connectives_behind : goal.decreases-connectives_behind
decreases-connectives_behind l = l.depth * 16 + 14

abbrev pub decreases-formula : goal.decreases-formula
decreases-formula l = l.depth * 16 + 15

abbrev pub invariant-links_behind-links : goal.invariant-links_behind-links
invariant-links_behind-links l = record {
  reads : (s : State) (x : FormulaForm) → HasRead (operand l.connective l.depth) x l.fn.input s
      → level l.connective l.depth s ≡
      resumed (symbol_kind l.connective) (FormulaForm.connected l.connective) (operand l.connective l.depth) (length s.tokens - vec_len l.links) x
      (link_forms l.links.items) l.input;
  room : vec_len l.links + length l.input.tokens ≤ length l.fn.input.tokens;
}

abbrev pub decreases-links_behind-links : goal.decreases-links_behind-links
decreases-links_behind-links l = length l.input.tokens
