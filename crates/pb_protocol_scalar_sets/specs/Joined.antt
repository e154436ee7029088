-- The kinds of operands that are joined by connectives or by operators of arithmetic.
use Rattle.std.specs.Prelude.{◌&&◌, List, [], ◌∷◌, Option}
use Rattle.pb_text_tree.specs.declared.term.TermLink.{TermLink}
use Rattle.pb_text_tree.specs.declared.term.ArithmeticLink.{ArithmeticLink}
use Rattle.pb_text_tree.specs.Form.{term_form}
use Rattle.pb_text_meaning.specs.Syntax.{Term}
use Rattle.pb_text_meaning.specs.Erase.{erased_term}
use Rattle.pb_protocol_symmetry.specs.Permutation.{Kind, Plain}
use Rattle.pb_protocol_symmetry.specs.Test.{when, is_plain}

-- of two values that stay
abbrev pub both_plain : Option Kind → Option Kind → Option Kind
both_plain j k = when (is_plain j && is_plain k) Plain

-- of a first operand with others after it; without these it has any kind
abbrev pub joined_kinds : Option Kind → List (Option Kind) → Option Kind
joined_kinds k [] = k
joined_kinds k (l ∷ ls) = joined_kinds (both_plain k l) ls

-- of an operand after an operator, by the kinds of terms
abbrev pub link_kind : (Term → Option Kind) → TermLink → Option Kind
link_kind kind link = kind (erased_term (term_form link.operand))

abbrev pub operation_kind : (Term → Option Kind) → ArithmeticLink → Option Kind
operation_kind kind link = kind (erased_term (term_form link.operand))
