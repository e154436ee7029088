-- How many equations formulas that are joined have, link by link.
use Rattle.std.specs.Prelude.{ℕ, ◌+◌, List, [], ◌∷◌}
use Rattle.pb_text_meaning.specs.Syntax.{Spec}
use Rattle.pb_protocol_tree.specs.declared.formula.Link.{Link}
use Rattle.pb_protocol_tree.specs.Form.{formula_form}
use Rattle.pb_model_sizes.specs.Equations.{formula_equations}

abbrev pub links_count : Spec → List Link → ℕ
links_count spec [] = 0
links_count spec (link ∷ links) =
    formula_equations spec (formula_form link.operand) + links_count spec links
