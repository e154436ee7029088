-- Operands of one connective.
use Rattle.std.specs.Prelude.{◌<◌, Bool, true, false, List, [], ◌∷◌, length, map}
use Rattle.pb_text_tree.specs.declared.operator.Connective.{Connective}
use Rattle.pb_text_tree.specs.declared.operator.Connective.TheVariants as connective
use Rattle.pb_text_tree.specs.declared.term.Term as declared_term
use Rattle.pb_text_tree.specs.declared.term.Term.{items-the_row-TermLink}
use Rattle.pb_text_tree.specs.declared.term.Term.{items-the_row-ArithmeticLink}
use Rattle.pb_text_tree.specs.declared.term.TermLink as declared_link
use Rattle.pb_text_meaning.specs.Syntax.{Term}
use Rattle.pb_text_meaning.specs.Erase.{of_connective}
use Rattle.pb_protocol_folding.specs.View.{term_of}

-- the truth value of a left operand that decides what a connective gives
abbrev pub deciding : Connective → Bool
deciding connective.And = false
deciding connective.Or = true
deciding connective.Implies = false

-- and what it gives then
abbrev pub outcome : Connective → Bool
outcome connective.And = false
outcome connective.Or = true
outcome connective.Implies = true

abbrev pub operand_of : declared_link.TermLink → Term
operand_of link = term_of link.operand

abbrev pub operands_of : List declared_link.TermLink → List Term
operands_of = map operand_of

-- first c (operand c (operand ..))
abbrev pub chain_term : Connective → Term → List Term → Term
chain_term c first [] = first
chain_term c first (x ∷ xs) = Term.Binary (of_connective c) first (chain_term c x xs)

-- a chain or arithmetic has at least two operands
abbrev pub HasLinks : declared_term.Term → Type 0
HasLinks (declared_term.Chain' c p first shape row) = 0 < length (items-the_row-TermLink _ row)
HasLinks (declared_term.Arithmetic' p first shape row) =
    0 < length (items-the_row-ArithmeticLink _ row)
HasLinks x = Unit {0}
