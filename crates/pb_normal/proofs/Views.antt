-- The operands of a join, as they stand in its node, are those of its vector.
use Rattle.std.proofs.Common.{◌≡◌, refl, ◌∙◌, ap, ◌∷◌, Vec, Global, Box}
use Rattle.std.specs.Prelude.{box_value}
use Rattle.pb_normal.specs.Normal.{Join}
use Rattle.pb_fixpoint_trees.specs.declared.junction.Junction.{Junction}
use Rattle.pb_normal.specs.declared.formula.Formula as formula
use Rattle.pb_normal.specs.declared.formula.Formula.{Formula, Row_of-Formula, end_of-Formula, more_of-Formula, items-the_row-Formula, items_hidden-the_row-Formula-0}
use Rattle.pb_normal.specs.View.{chained_formula, formula_view, formulas_in, formula_views}
use mathlib.Core.Former.{Count}

pub formulas-items : (n : _) (row : Row_of-Formula n) → formulas_in row ≡ formula_views (items-the_row-Formula n row)
formulas-items n end_of-Formula = refl
formulas-items n (more_of-Formula x row) = ap (λ v. formula_view x ∷ v) (formulas-items _ row)

abbrev formula_row_in : Formula → (n : Count) × Row_of-Formula n
formula_row_in (formula.Join' c p first shape row) = (_, row)
formula_row_in _ = (_, end_of-Formula)

pub formula-join : (m : Junction) (first : Box Formula Global) (v : Vec Formula Global)
    → formula_view (formula.Join m first v) ≡ chained_formula (Join m) (formula_view (box_value first)) (formula_views v.items)
formula-join m first v =
    let row = formula_row_in (formula.Join m first v) in
    ap (chained_formula (Join m) (formula_view (box_value first))) (formulas-items row.0 row.1 ∙ ap formula_views (items_hidden-the_row-Formula-0 v))
