use Rattle.std.proofs.Common.{◌∙◌, ◌++◌, List, ap, sym}
use Rattle.pb_text_tree.specs.declared.place.Place.{Place}
use Rattle.pb_model_tree.specs.declared.step_set.StepSetLink.{StepSetLink}
use Rattle.std.specs.Prelude.{box_value}
use Rattle.pb_text_tree.specs.Form.{chained}
use Rattle.pb_model_tree.specs.Form.{StepSetForm, step_set_form}
use Rattle.pb_protocol_packer.specs.Formulas.{set_link, set_links}
use Rattle.pb_protocol_packer.proofs.LoopRows.{loop-goes, row-pushed}
use Rattle.pb_protocol_packer.proofs.StepSetRows.{set-union}
use Rattle.pb_protocol_packer.proofs.step_sets.+step_sets.Goals as goal

pub copy_step_set-returns-in_ok-copy_set_links-in-Union : goal.copy_step_set-returns-in_ok-copy_set_links-in-Union
copy_step_set-returns-in_ok-copy_set_links-in-Union t c =
    let q = c.in_ok-copy_boxed_set-in-Union.field-0 in
    let w = c.in_ok-copy_set_links-in-Union.field-0 in
    let p = c.in-Union.first in
    set-union q w
    ∙ ap (λ (x : StepSetForm). chained StepSetForm.union x (set_links w.items)) c.in_ok-copy_boxed_set-in-Union.ensures
    ∙ ap (chained StepSetForm.union (step_set_form (box_value p))) (c.in_ok-copy_set_links-in-Union.ensures ∙ ap set_links c.deref.ensures.value)
    ∙ sym (ap step_set_form c.in-Union.is ∙ set-union p c.in-Union.links)

abbrev placed_set : Place → StepSetForm → Place × StepSetForm
placed_set p A = (p, A)

pub copy_set_links-loop-link-preserved : goal.copy_set_links-loop-link-preserved
copy_set_links-loop-link-preserved t c =
    loop-goes (λ (ks : List StepSetLink). set_links c.loop-link.copies.items ++ set_links ks) c.args.links.now c.loop-link.link-index c.link-item.result _ _ c.loop-link-test.true c.link-item.is
    (row-pushed set_link _ _ _ _ _ c.in_ok-push.ensures.items (ap (placed_set c.link-item.result.place) c.in_ok-operand.ensures)) c.loop-link.invariant
