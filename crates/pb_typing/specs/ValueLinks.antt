-- The shapes of the variables of quantifiers in operands of a connective in data.
use Rattle.std.specs.Prelude.{List, [], ◌∷◌, ◌++◌}
use Rattle.pb_text_tree.specs.declared.term.TermLink.{TermLink}
use Rattle.pb_text_meaning.specs.Syntax as syntax
use Rattle.pb_text_meaning.specs.Syntax.{Spec}
use Rattle.pb_typing_declarations.specs.Shapes.{Shape}
use Rattle.pb_typing_tree.specs.Loops.{loops}
use Rattle.pb_typing.specs.Tree.{as_value}

abbrev pub operand : TermLink → syntax.Formula
operand link = as_value link.operand

abbrev pub value_loops : Spec → List TermLink → List Shape
value_loops S [] = []
value_loops S (link ∷ links) = loops S (operand link) ++ value_loops S links
