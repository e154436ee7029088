-- Folded formulas joined by one connective.
use Rattle.std.specs.Prelude.{List, [], ◌∷◌}
use Rattle.pb_text_tree.specs.declared.operator.Connective.{Connective}
use Rattle.pb_text_tree.specs.declared.operator.Connective.TheVariants as connective
use Rattle.pb_model_tree.specs.declared.formula.Link.{Link}
use Rattle.pb_model_meaning.specs.Syntax.{Formula}
use Rattle.pb_protocol_folding.specs.FoldedModels.{folded_and_formula, folded_or_formula}
use Rattle.pb_protocol_folding.specs.FoldedModels.{folded_implies_formula}
use Rattle.pb_protocol_folding.specs.View.{formula_of}

-- f c g
abbrev pub folded_connected : Connective → Formula → Formula → Formula
folded_connected connective.And f g = folded_and_formula f g
folded_connected connective.Or f g = folded_or_formula f g
folded_connected connective.Implies f g = folded_implies_formula f g

-- f c (g c (h ..))
abbrev pub folded_chain : Connective → Formula → List Formula → Formula
folded_chain c f [] = f
folded_chain c f (g ∷ gs) = folded_connected c f (folded_chain c g gs)

abbrev pub linked_formula : Link → Formula
linked_formula link = formula_of link.operand
