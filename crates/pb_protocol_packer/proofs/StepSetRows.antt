-- A union of sets of steps says its first operand and its links.
use Rattle.std.proofs.Common.{◌≡◌, refl, ap, ◌∙◌, ◌∷◌, Vec, Global, Box}
use Rattle.std.specs.Prelude.{box_value}
use Rattle.pb_text_tree.specs.Form.{chained}
use Rattle.pb_model_tree.specs.declared.step_set.StepSet as set
use Rattle.pb_model_tree.specs.declared.step_set.StepSet.{StepSet, Row_of-StepSetLink, end_of-StepSetLink, more_of-StepSetLink, items-the_row-StepSetLink, items_hidden-the_row-StepSetLink-0}
use Rattle.pb_model_tree.specs.declared.step_set.StepSetLink.{StepSetLink}
use Rattle.pb_model_tree.specs.Form.{StepSetForm, step_set_form, step_set_links_in}
use Rattle.pb_protocol_packer.specs.Formulas.{set_links}
use mathlib.Core.Former.{Count}

set-links-items : (n : _) (row : Row_of-StepSetLink n) → step_set_links_in row ≡ set_links (items-the_row-StepSetLink n row)
set-links-items n end_of-StepSetLink = refl
set-links-items n (more_of-StepSetLink place operand row) = ap (λ v. (place, step_set_form operand) ∷ v) (set-links-items _ row)

abbrev set_row_in : StepSet → (n : Count) × Row_of-StepSetLink n
set_row_in (set.Union' p first shape row) = (_, row)
set_row_in _ = (_, end_of-StepSetLink)

pub set-union : (first : Box StepSet Global) (v : Vec StepSetLink Global) → step_set_form (set.Union first v) ≡ chained StepSetForm.union (step_set_form (box_value first)) (set_links v.items)
set-union first v =
    let row = set_row_in (set.Union first v) in
    ap (chained StepSetForm.union (step_set_form (box_value first))) (set-links-items row.0 row.1 ∙ ap set_links (items_hidden-the_row-StepSetLink-0 v))
