-- Unions of sets and chains of formulas whose parts are equal are equal.
use Rattle.std.proofs.Common.{◌≡◌, ◌∷◌, refl, sym, ◌∙◌, ap, Vec, Box, Global}
use Rattle.std.specs.Prelude.{box_value}
use Rattle.pb_text_tree.specs.declared.operator.Connective.{Connective}
use Rattle.pb_text_tree.specs.Form.{chained}
use Rattle.pb_model_tree.specs.declared.formula.Formula as formula
use Rattle.pb_model_tree.specs.declared.formula.Formula.{Formula, Row_of-Link, end_of-Link, more_of-Link, items-the_row-Link, items_hidden-the_row-Link-0}
use Rattle.pb_model_tree.specs.declared.formula.Link.{Link}
use Rattle.pb_model_tree.specs.declared.step_set.StepSet as step_set
use Rattle.pb_model_tree.specs.declared.step_set.StepSet.{StepSet, Row_of-StepSetLink, end_of-StepSetLink, more_of-StepSetLink, items-the_row-StepSetLink, items_hidden-the_row-StepSetLink-0}
use Rattle.pb_model_tree.specs.declared.step_set.StepSetLink.{StepSetLink}
use Rattle.pb_model_tree.specs.Form.{StepSetForm, step_set_form, step_set_links_in, FormulaForm, formula_form, links_in}
use Rattle.pb_model_invariants.specs.Links.{set_links, link_forms}
use mathlib.Core.Former.{Count}

-- ---- sets of steps

set-links-items : (n : _) (row : Row_of-StepSetLink n) → step_set_links_in row ≡ set_links (items-the_row-StepSetLink n row)
set-links-items n end_of-StepSetLink = refl
set-links-items n (more_of-StepSetLink place operand row) = ap (λ v. (place, step_set_form operand) ∷ v) (set-links-items _ row)

abbrev set_row_in : StepSet → (n : Count) × Row_of-StepSetLink n
set_row_in (step_set.Union' p first shape row) = (_, row)
set_row_in _ = (_, end_of-StepSetLink)

-- sets with `||` between them say the first and the links
pub set-union : (first : Box StepSet Global) (v : Vec StepSetLink Global)
    → step_set_form (step_set.Union first v) ≡ chained StepSetForm.union (step_set_form (box_value first)) (set_links v.items)
set-union first v =
    let row = set_row_in (step_set.Union first v) in
    ap (chained StepSetForm.union (step_set_form (box_value first))) (set-links-items row.0 row.1 ∙ ap set_links (items_hidden-the_row-StepSetLink-0 v))

pub union-copied : (x y : Box StepSet Global) (xs ys : Vec StepSetLink Global) (b : StepSet) → b ≡ step_set.Union y ys
    → step_set_form (box_value x) ≡ step_set_form (box_value y) → set_links xs.items ≡ set_links ys.items → step_set_form (step_set.Union x xs) ≡ step_set_form b
union-copied x y xs ys b is first links =
    set-union x xs ∙ ap (λ v. chained StepSetForm.union v (set_links xs.items)) first
    ∙ ap (λ v. chained StepSetForm.union (step_set_form (box_value y)) v) links ∙ sym (set-union y ys) ∙ ap step_set_form (sym is)

-- ---- formulas

links-items : (n : _) (row : Row_of-Link n) → links_in row ≡ link_forms (items-the_row-Link n row)
links-items n end_of-Link = refl
links-items n (more_of-Link place operand row) = ap (λ v. (place, formula_form operand) ∷ v) (links-items _ row)

abbrev row_in : Formula → (n : Count) × Row_of-Link n
row_in (formula.Chain' c p first shape row) = (_, row)
row_in _ = (_, end_of-Link)

-- a chain says its first operand and its links
pub formula-chain : (c : Connective) (first : Box Formula Global) (v : Vec Link Global)
    → formula_form (formula.Chain c first v) ≡ chained (FormulaForm.connected c) (formula_form (box_value first)) (link_forms v.items)
formula-chain c first v =
    let row = row_in (formula.Chain c first v) in
    ap (chained (FormulaForm.connected c) (formula_form (box_value first))) (links-items row.0 row.1 ∙ ap link_forms (items_hidden-the_row-Link-0 v))

pub chain-copied : (c : Connective) (x y : Box Formula Global) (xs ys : Vec Link Global) (b : Formula) → b ≡ formula.Chain c y ys
    → formula_form (box_value x) ≡ formula_form (box_value y) → link_forms xs.items ≡ link_forms ys.items → formula_form (formula.Chain c x xs) ≡ formula_form b
chain-copied c x y xs ys b is first links =
    formula-chain c x xs ∙ ap (λ v. chained (FormulaForm.connected c) v (link_forms xs.items)) first
    ∙ ap (λ v. chained (FormulaForm.connected c) (formula_form (box_value y)) v) links ∙ sym (formula-chain c y ys) ∙ ap formula_form (sym is)
