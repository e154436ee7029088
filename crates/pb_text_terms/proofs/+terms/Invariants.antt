use Rattle.std.proofs.Common.{◌≡◌, ◌+◌, ◌*◌, ◌-◌, ◌≤◌, ◌<◌, true, length, map, vec_len, Ok}
use Rattle.pb_text_tree.specs.Form.{TermForm, term_form, term_links, arithmetic_links}
use Rattle.pb_text_lexer.specs.Grammar.{State}
use Rattle.pb_text_lexer.specs.Steps.{kind, take_token, nothing_between}
use Rattle.pb_text_lexer.proofs.LoopLemmas.{resumed}
use Rattle.pb_text_terms.specs.declared.level.Operator.TheVariants.{Arithmetic, Relation, Connective}
use Rattle.pb_text_terms.specs.Levels.{rank, level_of, operand_level, may_quantify}
use Rattle.pb_text_terms.specs.Operators.{symbol_kind}
use Rattle.pb_text_terms.specs.Readers.{HasRead}
use Rattle.pb_text_terms.specs.Reading.{term, at, with_place, argument_pair, argument_list, is_comma, operation, operations, is_among}
use Rattle.pb_text_terms.proofs.ListLemmas.{IsListed}
use Rattle.pb_text_terms.proofs.+terms.Given as goal

-- the functions that read at one number of levels, each above those that it calls

abbrev pub decreases-primary::unary : goal.decreases-primary::unary
decreases-primary::unary l = l.depth * 64 + 1

abbrev pub decreases-primary::negation : goal.decreases-primary::negation
decreases-primary::negation l = l.depth * 64

abbrev pub decreases-primary::negative : goal.decreases-primary::negative
decreases-primary::negative l = l.depth * 64

abbrev pub decreases-primary::bracketed : goal.decreases-primary::bracketed
decreases-primary::bracketed l = l.depth * 64

abbrev pub decreases-primary::quantified : goal.decreases-primary::quantified
decreases-primary::quantified l = l.depth * 64 + 1

abbrev pub decreases-primary::quantifying : goal.decreases-primary::quantifying
decreases-primary::quantifying l = l.depth * 64

abbrev pub decreases-primary::counting : goal.decreases-primary::counting
decreases-primary::counting l = l.depth * 64

abbrev pub decreases-instance::instance : goal.decreases-instance::instance
decreases-instance::instance l = l.depth * 64

abbrev pub decreases-instance::argument_list : goal.decreases-instance::argument_list
decreases-instance::argument_list l = l.depth * 64 + 54

abbrev pub decreases-term::term_at : goal.decreases-term::term_at
decreases-term::term_at l = l.depth * 64 + rank l.limit * 6 + 5

abbrev pub decreases-term::operated : goal.decreases-term::operated
decreases-term::operated l = l.depth * 64 + rank l.levels.limit * 6 + 4

abbrev pub decreases-chain::joined_by : goal.decreases-chain::joined_by
decreases-chain::joined_by l = l.depth * 64 + rank (level_of l.operator) * 6 + 3

abbrev pub decreases-chain::calculated_by : goal.decreases-chain::calculated_by
decreases-chain::calculated_by l = l.depth * 64 + rank (level_of (Arithmetic l.operators)) * 6 + 2

abbrev pub decreases-chain::operations : goal.decreases-chain::operations
decreases-chain::operations l = l.depth * 64 + rank (level_of (Arithmetic l.operators)) * 6 + 1

abbrev pub decreases-chain::related_by : goal.decreases-chain::related_by
decreases-chain::related_by l = l.depth * 64 + rank (level_of (Relation l.relation)) * 6 + 2

abbrev pub decreases-chain::links_behind : goal.decreases-chain::links_behind
decreases-chain::links_behind l = l.depth * 64 + rank (level_of (Connective l.connective)) * 6 + 1

abbrev pub decreases-chain::connected_by : goal.decreases-chain::connected_by
decreases-chain::connected_by l = l.depth * 64 + rank (level_of (Connective l.connective)) * 6 + 2

abbrev pub invariant-instance::argument_list-arguments : goal.invariant-instance::argument_list-arguments
invariant-instance::argument_list-arguments l =
    IsListed (with_place (term l.depth)) is_comma take_token (argument_list (term l.depth) l.fn.input) (map argument_pair l.arguments.items) (vec_len l.arguments) (length l.fn.input.tokens) l.input

abbrev pub decreases-instance::argument_list-arguments : goal.decreases-instance::argument_list-arguments
decreases-instance::argument_list-arguments l = length l.input.tokens

abbrev pub invariant-chain::operations-operations : goal.invariant-chain::operations-operations
invariant-chain::operations-operations l = record {
  listed : IsListed (operation l.operators (at l.level l.depth)) (is_among l.operators) nothing_between (operations l.operators (at l.level l.depth) l.fn.input)
      (arithmetic_links l.links.items) (vec_len l.links) (length l.fn.input.tokens) l.input;
  stands : is_among l.operators (kind l.input) ≡ true;
}

abbrev pub decreases-chain::operations-operations : goal.decreases-chain::operations-operations
decreases-chain::operations-operations l = length l.input.tokens

abbrev pub invariant-chain::links_behind-links : goal.invariant-chain::links_behind-links
invariant-chain::links_behind-links l = record {
  reads : (s : State) (x : TermForm) → HasRead (at (operand_level (Connective l.connective)) l.depth) x l.fn.input s
      → at (level_of (Connective l.connective)) l.depth s ≡
      resumed (symbol_kind l.connective) (TermForm.connected l.connective) (at (operand_level (Connective l.connective)) l.depth) (length s.tokens - vec_len l.links)
      x (term_links l.links.items) l.input;
  room : vec_len l.links + length l.input.tokens ≤ length l.fn.input.tokens;
}

abbrev pub decreases-chain::links_behind-links : goal.decreases-chain::links_behind-links
decreases-chain::links_behind-links l = length l.input.tokens

abbrev pub invariant-term::operated-operators : goal.invariant-term::operated-operators
invariant-term::operated-operators l = record {
  reads : (s : State) → at l.fn.levels.above l.depth s ≡ Ok (term_form l.fn.first, l.fn.input) → (may_quantify l.limit ≡ true → length l.fn.input.tokens < length s.tokens)
      → at l.above l.depth s ≡ Ok (term_form l.left, l.input);
  within : rank l.above ≤ rank l.limit;
  room : length l.input.tokens ≤ length l.fn.input.tokens;
}

abbrev pub decreases-term::operated-operators : goal.decreases-term::operated-operators
decreases-term::operated-operators l = rank l.limit - rank l.above
