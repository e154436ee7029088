use Rattle.std.proofs.Common.{ℕ, ◌≡◌, ◌+◌, ◌*◌, ◌-◌, ◌≤◌, ◌<◌, length, vec_len, Ok}
use Rattle.pb_text_tree.specs.declared.operator.Connective.{Connective}
use Rattle.pb_text_tree.specs.declared.operator.Connective.TheVariants.{And, Or, Implies}
use Rattle.pb_protocol_tree.specs.Form.{FormulaForm}
use Rattle.pb_protocol_tree.specs.Links.{link_forms}
use Rattle.pb_text_lexer.specs.Grammar.{State}
use Rattle.pb_text_lexer.proofs.LoopLemmas.{resumed}
use Rattle.pb_text_terms.specs.Operators.{symbol_kind}
use Rattle.pb_model_text.specs.Reading.{names_of, operand, level}
use Rattle.pb_model_text.proofs.+formulas.Given as goal

abbrev rank : Connective → ℕ
rank And = 8
rank Or = 12
rank Implies = 16

abbrev pub decreases-worded::node : goal.decreases-worded::node
decreases-worded::node l = l.scope.depth * 32 + 5

abbrev pub decreases-formula::nameless : goal.decreases-formula::nameless
decreases-formula::nameless l = l.scope.depth * 32 + 1

abbrev pub decreases-worded::wordless : goal.decreases-worded::wordless
decreases-worded::wordless l = l.scope.depth * 32 + 2

abbrev pub decreases-worded::fair_operand : goal.decreases-worded::fair_operand
decreases-worded::fair_operand l = l.scope.depth * 32 + 3

abbrev pub decreases-worded::behind_fair : goal.decreases-worded::behind_fair
decreases-worded::behind_fair l = l.scope.depth * 32

abbrev pub decreases-worded::led : goal.decreases-worded::led
decreases-worded::led l = l.scope.depth * 32 + 3

abbrev pub decreases-worded::joined_behind : goal.decreases-worded::joined_behind
decreases-worded::joined_behind l = l.scope.depth * 32 + 6

abbrev pub decreases-worded::item : goal.decreases-worded::item
decreases-worded::item l = l.scope.depth * 32 + 7

abbrev pub decreases-formula::negation : goal.decreases-formula::negation
decreases-formula::negation l = l.scope.depth * 32

abbrev pub decreases-formula::bracketed : goal.decreases-formula::bracketed
decreases-formula::bracketed l = l.scope.depth * 32

abbrev pub decreases-formula::modal : goal.decreases-formula::modal
decreases-formula::modal l = l.scope.depth * 32

abbrev pub decreases-formula::body : goal.decreases-formula::body
decreases-formula::body l = l.scope.depth * 32 + 22

abbrev pub decreases-formula::fixpoint : goal.decreases-formula::fixpoint
decreases-formula::fixpoint l = l.scope.depth * 32

abbrev pub decreases-formula::quantified : goal.decreases-formula::quantified
decreases-formula::quantified l = l.scope.depth * 32

abbrev pub decreases-formula::operand : goal.decreases-formula::operand
decreases-formula::operand l = l.scope.depth * 32 + rank l.connective

abbrev pub decreases-formula::level : goal.decreases-formula::level
decreases-formula::level l = l.scope.depth * 32 + rank l.connective + 3

abbrev pub decreases-formula::links_behind : goal.decreases-formula::links_behind
decreases-formula::links_behind l = l.scope.depth * 32 + rank l.connective + 1

abbrev pub decreases-formula::chain_behind : goal.decreases-formula::chain_behind
decreases-formula::chain_behind l = l.scope.depth * 32 + rank l.connective + 2

abbrev pub decreases-formula::connectives_behind : goal.decreases-formula::connectives_behind
decreases-formula::connectives_behind l = l.scope.depth * 32 + 20

abbrev pub decreases-formula::formula : goal.decreases-formula::formula
decreases-formula::formula l = l.scope.depth * 32 + 21

abbrev pub invariant-formula::links_behind-links : goal.invariant-formula::links_behind-links
invariant-formula::links_behind-links l = record {
  reads : (s : State) (x : FormulaForm) → operand l.connective (names_of l.scope.names.now) l.scope.depth s ≡ Ok (x, l.fn.input) → length l.fn.input.tokens < length s.tokens
      → level l.connective (names_of l.scope.names.now) l.scope.depth s ≡
      resumed (symbol_kind l.connective) (FormulaForm.connected l.connective)
      (operand l.connective (names_of l.scope.names.now) l.scope.depth) (length s.tokens - vec_len l.links) x
      (link_forms l.links.items) l.input;
  room : vec_len l.links + length l.input.tokens ≤ length l.fn.input.tokens;
}

abbrev pub decreases-formula::links_behind-links : goal.decreases-formula::links_behind-links
decreases-formula::links_behind-links l = length l.input.tokens
