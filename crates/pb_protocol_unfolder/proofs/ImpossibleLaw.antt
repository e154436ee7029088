-- A step that with none of its values may be taken leads nowhere: no flat step of it is left.
use Rattle.std.proofs.Common.{◌≡◌, ◌∙◌, refl, sym, ap, Bool, true, false, not, ◌||◌, if◌then◌else◌, List, [], ◌∷◌, map, filter, flat_map}
use Rattle.std.specs.List.{list_any}
use Rattle.std.proofs.lemmas.List.Folds.{flat_map-map}
use Rattle.pb_model_meaning.specs.Syntax as flat
use Rattle.pb_model_meaning.specs.Steps as flat_steps
use Rattle.pb_protocol_folding.specs.FoldedModels.{folded_model, folded_step, folded_steps}
use Rattle.pb_protocol_folding.proofs.FoldedModels.{folding_keeps_steps}
use Rattle.pb_protocol_meaning.specs.Syntax.{Protocol}
use Rattle.pb_protocol_meaning.specs.Steps.{data_of}
use Rattle.pb_protocol_unfolding.specs.Unfolding.{Instance, instances_of, unfolded, unfolded_step}
use Rattle.pb_protocol_unfolding.proofs.FlatModels.{step-hides, with_steps}
use Rattle.pb_protocol_unfolding.proofs.Successors.{no-filter, step-leads}
use Rattle.pb_protocol_unfolder.specs.Told.{may_be_taken}
use Rattle.pb_protocol_unfolder.specs.Laws.{ImpossibleStepsLeadNowhere}

none-left : (m : Protocol) (is : List Instance) → list_any (may_be_taken m) is ≡ false → folded_steps (data_of m) (map (unfolded_step m) is) ≡ []
none-left m [] none = refl
none-left m (i ∷ is) none = by (may_be_taken m i) none (none-left m is)
  where
    by : (b : Bool) → (b || list_any (may_be_taken m) is) ≡ false → (list_any (may_be_taken m) is ≡ false → folded_steps (data_of m) (map (unfolded_step m) is) ≡ []) →
        (if b then folded_step (data_of m) (unfolded_step m i) ∷ folded_steps (data_of m) (map (unfolded_step m) is) else folded_steps (data_of m) (map (unfolded_step m) is)) ≡ []
    by true none others = absurd (cc)
    by false none others = others none

not-true : (b : Bool) → not b ≡ true → b ≡ false
not-true true e = absurd (cc)
not-true false e = refl

pub impossible_steps_lead_nowhere : ImpossibleStepsLeadNowhere
impossible_steps_lead_nowhere m hides a among impossible s =
    let is = instances_of m a in
    let steps = map (unfolded_step m) is in
    let alone = with_steps (unfolded m) steps in
    let by = flat_steps.successors_by (unfolded m) s in
    sym (step-leads m hides s a) ∙ sym (flat_map-map by (unfolded_step m) is) ∙ ap (flat_map by) (sym (no-filter steps))
    ∙ sym (folding_keeps_steps alone (step-hides m hides a) flat.StepSet.All s).0
    ∙ ap (λ (left : List flat.Step). flat_map (flat_steps.successors_by (folded_model alone) s) (filter (λ (b : flat.Step). flat_steps.has_step flat.StepSet.All b.name) left))
    (none-left m is (not-true (list_any (may_be_taken m) is) impossible))
