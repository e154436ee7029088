-- The links of chains of formulas and of unions of steps, as they stand in their node, are those of
-- their vectors.
use Rattle.std.proofs.Common.{◌≡◌, ◌∙◌, refl, sym, ap, List, [], ◌∷◌, map, Vec, Global, Box}
use Rattle.std.specs.Prelude.{box_value}
use Rattle.pb_text_tree.specs.declared.place.Place.{Place}
use Rattle.pb_text_tree.specs.declared.operator.Connective.{Connective}
use Rattle.pb_text_tree.specs.Form.{chained}
use Rattle.pb_model_tree.specs.declared.formula.Formula as flat_formula_tree
use Rattle.pb_model_tree.specs.declared.formula.Link as flat_formula_link
use Rattle.pb_model_tree.specs.declared.step_set.StepSet as flat_set_tree
use Rattle.pb_model_tree.specs.declared.step_set.StepSetLink as flat_step_set_link
use Rattle.pb_model_tree.specs.Form as flat
use Rattle.pb_protocol_tree.specs.declared.formula.Formula as formula
use Rattle.pb_protocol_tree.specs.declared.formula.Formula.{Formula, Row_of-Link, end_of-Link, more_of-Link, items-the_row-Link, items_hidden-the_row-Link-0}
use Rattle.pb_protocol_tree.specs.declared.formula.Link.{Link}
use Rattle.pb_protocol_tree.specs.declared.step_set.StepSet as set
use Rattle.pb_protocol_tree.specs.declared.step_set.StepSet.{StepSet, Row_of-StepSetLink, end_of-StepSetLink, more_of-StepSetLink, items-the_row-StepSetLink, items_hidden-the_row-StepSetLink-0}
use Rattle.pb_protocol_tree.specs.declared.step_set.StepSetLink.{StepSetLink}
use Rattle.pb_protocol_tree.specs.Form.{StepSetForm, FormulaForm, step_set_form, step_set_links_in, formula_form, links_in}
use Rattle.pb_protocol_unfolder.specs.View.{link_form, flat_link, linked, set_link_form, flat_set_link, set_linked}
use Rattle.pb_protocol_unfolder.specs.Plain.{flat_formula_form, flat_set}
use mathlib.Core.Former.{Count}

-- ---- protocols

links-items : (n : _) (row : Row_of-Link n) → links_in row ≡ map link_form (items-the_row-Link n row)
links-items n end_of-Link = refl
links-items n (more_of-Link place operand row) = ap (λ v. (place, formula_form operand) ∷ v) (links-items _ row)

abbrev row_in : Formula → (n : Count) × Row_of-Link n
row_in (formula.Chain' c p first shape row) = (_, row)
row_in _ = (_, end_of-Link)

pub chain-form : (c : Connective) (first : Box Formula Global) (v : Vec Link Global)
    → formula_form (formula.Chain c first v) ≡ chained (FormulaForm.connected c) (formula_form (box_value first)) (map link_form v.items)
chain-form c first v =
    let row = row_in (formula.Chain c first v) in
    ap (chained (FormulaForm.connected c) (formula_form (box_value first))) (links-items row.0 row.1 ∙ ap (map link_form) (items_hidden-the_row-Link-0 v))

set-links-items : (n : _) (row : Row_of-StepSetLink n) → step_set_links_in row ≡ map set_link_form (items-the_row-StepSetLink n row)
set-links-items n end_of-StepSetLink = refl
set-links-items n (more_of-StepSetLink place operand row) = ap (λ v. (place, step_set_form operand) ∷ v) (set-links-items _ row)

abbrev set_row_in : StepSet → (n : Count) × Row_of-StepSetLink n
set_row_in (set.Union' p first shape row) = (_, row)
set_row_in _ = (_, end_of-StepSetLink)

pub union-form : (first : Box StepSet Global) (v : Vec StepSetLink Global) → step_set_form (set.Union first v) ≡ chained StepSetForm.union (step_set_form (box_value first)) (map set_link_form v.items)
union-form first v =
    let row = set_row_in (set.Union first v) in
    ap (chained StepSetForm.union (step_set_form (box_value first))) (set-links-items row.0 row.1 ∙ ap (map set_link_form) (items_hidden-the_row-StepSetLink-0 v))

-- ---- flat models

flat-links-items : (n : _) (row : flat_formula_tree.Row_of-Link n) → flat.links_in row ≡ map flat_link (flat_formula_tree.items-the_row-Link n row)
flat-links-items n flat_formula_tree.end_of-Link = refl
flat-links-items n (flat_formula_tree.more_of-Link place operand row) = ap (λ v. (place, flat.formula_form operand) ∷ v) (flat-links-items _ row)

abbrev flat_row_in : flat_formula_tree.Formula → (n : Count) × flat_formula_tree.Row_of-Link n
flat_row_in (flat_formula_tree.Chain' c p first shape row) = (_, row)
flat_row_in _ = (_, flat_formula_tree.end_of-Link)

pub flat-chain-form : (c : Connective) (first : Box flat_formula_tree.Formula Global)
    (v : Vec flat_formula_link.Link Global)
    → flat.formula_form (flat_formula_tree.Chain c first v)
    ≡ chained (flat.FormulaForm.connected c) (flat.formula_form (box_value first)) (map flat_link v.items)
flat-chain-form c first v =
    let row = flat_row_in (flat_formula_tree.Chain c first v) in
    ap (chained (flat.FormulaForm.connected c) (flat.formula_form (box_value first))) (flat-links-items row.0 row.1 ∙ ap (map flat_link) (flat_formula_tree.items_hidden-the_row-Link-0 v))

flat-set-links-items : (n : _) (row : flat_set_tree.Row_of-StepSetLink n) → flat.step_set_links_in row ≡ map flat_set_link (flat_set_tree.items-the_row-StepSetLink n row)
flat-set-links-items n flat_set_tree.end_of-StepSetLink = refl
flat-set-links-items n (flat_set_tree.more_of-StepSetLink place operand row) = ap (λ v. (place, flat.step_set_form operand) ∷ v) (flat-set-links-items _ row)

abbrev flat_set_row_in : flat_set_tree.StepSet → (n : Count) × flat_set_tree.Row_of-StepSetLink n
flat_set_row_in (flat_set_tree.Union' p first shape row) = (_, row)
flat_set_row_in _ = (_, flat_set_tree.end_of-StepSetLink)

pub flat-union-form : (first : Box flat_set_tree.StepSet Global) (v : Vec flat_step_set_link.StepSetLink Global)
    → flat.step_set_form (flat_set_tree.Union first v)
    ≡ chained flat.StepSetForm.union (flat.step_set_form (box_value first)) (map flat_set_link v.items)
flat-union-form first v =
    let row = flat_set_row_in (flat_set_tree.Union first v) in
    ap (chained flat.StepSetForm.union (flat.step_set_form (box_value first))) (flat-set-links-items row.0 row.1 ∙ ap (map flat_set_link) (flat_set_tree.items_hidden-the_row-StepSetLink-0 v))

-- ---- what stays of chains

flat-chained : (c : Connective) (f : FormulaForm) (ls : List (Place × FormulaForm))
    → flat_formula_form (chained (FormulaForm.connected c) f ls) ≡ chained (flat.FormulaForm.connected c) (flat_formula_form f) (map linked ls)
flat-chained c f [] = refl
flat-chained c f (l ∷ ls) = ap (flat.FormulaForm.connected c l.0 (flat_formula_form f)) (flat-chained c l.1 ls)

pub chain-flat : (c : Connective) (x : Box flat_formula_tree.Formula Global) (xs : Vec flat_formula_link.Link Global)
    (y : Box Formula Global) (ys : Vec Link Global) → flat.formula_form (box_value x) ≡ flat_formula_form (formula_form (box_value y))
    → map flat_link xs.items ≡ map linked (map link_form ys.items) → flat.formula_form (flat_formula_tree.Chain c x xs) ≡ flat_formula_form (formula_form (formula.Chain c y ys))
chain-flat c x xs y ys first links =
    flat-chain-form c x xs ∙ ap (λ v. chained (flat.FormulaForm.connected c) v (map flat_link xs.items)) first
    ∙ ap (chained (flat.FormulaForm.connected c) (flat_formula_form (formula_form (box_value y)))) links
    ∙ sym (flat-chained c (formula_form (box_value y)) (map link_form ys.items)) ∙ ap flat_formula_form (sym (chain-form c y ys))

flat-united : (A : StepSetForm) (ls : List (Place × StepSetForm)) → flat_set (chained StepSetForm.union A ls) ≡ chained flat.StepSetForm.union (flat_set A) (map set_linked ls)
flat-united A [] = refl
flat-united A (l ∷ ls) = ap (flat.StepSetForm.union l.0 (flat_set A)) (flat-united l.1 ls)

pub union-flat : (x : Box flat_set_tree.StepSet Global) (xs : Vec flat_step_set_link.StepSetLink Global)
    (y : Box StepSet Global) (ys : Vec StepSetLink Global) → flat.step_set_form (box_value x) ≡ flat_set (step_set_form (box_value y))
    → map flat_set_link xs.items ≡ map set_linked (map set_link_form ys.items) → flat.step_set_form (flat_set_tree.Union x xs) ≡ flat_set (step_set_form (set.Union y ys))
union-flat x xs y ys first links =
    flat-union-form x xs ∙ ap (λ v. chained flat.StepSetForm.union v (map flat_set_link xs.items)) first
    ∙ ap (chained flat.StepSetForm.union (flat_set (step_set_form (box_value y)))) links
    ∙ sym (flat-united (step_set_form (box_value y)) (map set_link_form ys.items)) ∙ ap flat_set (sym (union-form y ys))
