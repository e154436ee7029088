-- Operands of the tree, over slots.
use Rattle.std.specs.Prelude.{List, map}
use Rattle.pb_text_tree.specs.declared.operator.Arithmetic.{Arithmetic}
use Rattle.pb_text_tree.specs.declared.term.Term as ast
use Rattle.pb_text_tree.specs.declared.term.TermLink.{TermLink}
use Rattle.pb_text_tree.specs.declared.term.ArithmeticLink.{ArithmeticLink}
use Rattle.pb_text_tree.specs.Form.{term_form}
use Rattle.pb_text_meaning.specs.Erase.{erased_term}
use Rattle.pb_text_meaning.specs.Syntax.{Spec}
use Rattle.pb_typing_tree.specs.Tree.{Term}
use Rattle.pb_typing_tree.specs.Elaboration.{Slotting, slotted}

abbrev pub over_slots : Spec → Slotting → ast.Term → Term
over_slots S c x = slotted S c (erased_term (term_form x))

abbrev pub link_terms : Spec → Slotting → List TermLink → List Term
link_terms S c links = map (λ link. over_slots S c link.operand) links

abbrev pub arithmetic_terms : Spec → Slotting → List ArithmeticLink → List (Arithmetic × Term)
arithmetic_terms S c links = map (λ link. (link.operator, over_slots S c link.operand)) links
