-- A chain of formulas with one link.
use Rattle.std.proofs.Common.{◌≡◌, ◌∙◌, List, [], ◌∷◌, refl, ap, Vec, Box, Global}
use Rattle.std.specs.Prelude.{box_value}
use Rattle.pb_text_tree.specs.declared.place.Place.{Place}
use Rattle.pb_text_tree.specs.declared.operator.Connective.{Connective}
use Rattle.pb_text_tree.specs.Form.{chained}
use Rattle.pb_model_tree.specs.declared.formula.Formula as formula
use Rattle.pb_model_tree.specs.declared.formula.Formula.{Formula, Row_of-Link, end_of-Link, more_of-Link, items-the_row-Link, items_hidden-the_row-Link-0}
use Rattle.pb_model_tree.specs.declared.formula.Link.{Link}
use Rattle.pb_model_tree.specs.Form.{FormulaForm, formula_form, links_in}
use mathlib.Core.Former.{Count}

-- links as a formula's form has them
abbrev pairs_in : List Link → List (Place × FormulaForm)
pairs_in [] = []
pairs_in (l ∷ ls) = (l.place, formula_form l.operand) ∷ pairs_in ls

row-links : (n : _) (row : Row_of-Link n) → links_in row ≡ pairs_in (items-the_row-Link n row)
row-links n end_of-Link = refl
row-links n (more_of-Link place operand row) = ap (λ (zs : List (Place × FormulaForm)). (place, formula_form operand) ∷ zs) (row-links _ row)

abbrev formula_row : Formula → (n : Count) × Row_of-Link n
formula_row (formula.Chain' c p first shape row) = (_, row)
formula_row _ = (_, end_of-Link)

-- a chain with one link
pub chain-of-one : (f : Formula) (c : Connective) (p : Box Formula Global) (v : Vec Link Global) (l : Link) → f ≡ formula.Chain c p v → v.items ≡ l ∷ []
    → formula_form f ≡ FormulaForm.connected c l.place (formula_form (box_value p)) (formula_form l.operand)
chain-of-one f c p v l is one =
    let row = formula_row (formula.Chain c p v) in
    let first = formula_form (box_value p) in
    ap formula_form is
    ∙ (ap (chained (FormulaForm.connected c) first) (row-links row.0 row.1)
    ∙ ap (λ (ls : List Link). chained (FormulaForm.connected c) first (pairs_in ls)) (items_hidden-the_row-Link-0 v ∙ one))
