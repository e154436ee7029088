-- The flat model as it is or packed, accepted or not; or not packed.
use Rattle.std.proofs.Common.{◌≡◌, true, false}
use Rattle.pb_model_tree.specs.Form.{model_form}
use Rattle.pb_model_properties.specs.declared.solved.UnpackedModel.{UnpackedModel}
use Rattle.pb_model_properties.specs.Made.{has_many_variables}
use Rattle.pb_model_properties.proofs.Counts.{is_counted}
use Rattle.pb_model_properties.proofs.SolvedModels.{as_it_is, as_packed, flat_told, ill_typed_told, is_packed_to, not_packed_told, packed_told}
use Rattle.pb_model_properties.proofs.flat.flat_solved.Goals as goal

pub returns-in-Ok-clause-model : goal.returns-in-Ok-clause-model
returns-in-Ok-clause-model c =
    let few : has_many_variables (model_form c.args.model) ≡ false =
    is_counted c.args.model c.deref.result.now c.in_ok-is_flat_state_large.field-0 false c.in_ok-is_flat_state_large.ensures c.deref.ensures.value c.if-not-branch.true in
    flat_told c.models_stand_for_protocols.ensures.said c.args.model c.in-Ok.typed c.args.names few c.in-Ok.ensures.kept c.in-Ok.ensures.accepted

pub returns-in-Err-clause-refused : goal.returns-in-Err-clause-refused
returns-in-Err-clause-refused c =
    ill_typed_told (model_form c.args.model) (model_form c.args.model)
    (as_it_is (model_form c.args.model)
    (is_counted c.args.model c.deref.result.now c.in_ok-is_flat_state_large.field-0 false c.in_ok-is_flat_state_large.ensures c.deref.ensures.value c.if-not-branch.true))
    c.args.names c.in-Err.error c.told_error.result c.told_error.ensures c.in-Err.ensures.fails c.in-Err.ensures.ill_typed

pub returns-in-Err-pack_checked-clause-refused : goal.returns-in-Err-pack_checked-clause-refused
returns-in-Err-pack_checked-clause-refused c =
    not_packed_told (model_form c.args.model) c.args.names c.in-Err-pack_checked.error c.told_error-in-Err-pack_checked.result
    (is_counted c.args.model c.deref.result.now c.in_ok-is_flat_state_large.field-0 true c.in_ok-is_flat_state_large.ensures c.deref.ensures.value c.if-not-branch.false)
    c.told_error-in-Err-pack_checked.ensures c.in-Err-pack_checked.ensures.refused

pub returns-in-Ok-check_model-clause-model : goal.returns-in-Ok-check_model-clause-model
returns-in-Ok-check_model-clause-model c =
    let many : has_many_variables (model_form c.args.model) ≡ true =
    is_counted c.args.model c.deref.result.now c.in_ok-is_flat_state_large.field-0 true c.in_ok-is_flat_state_large.ensures c.deref.ensures.value c.if-not-branch.false in
    let to = c.in-Ok-pack_checked.ensures in
    let n = c.in-Ok-pack_checked.packed.model in
    let unpacked : UnpackedModel = record { model = c.args.model; groups = c.in-Ok-pack_checked.packed.groups } in
    packed_told c.models_stand_for_protocols.ensures unpacked n c.in-Ok-check_model.typed c.args.names many c.in-Ok-check_model.ensures.kept c.in-Ok-check_model.ensures.accepted
    (is_packed_to (model_form c.args.model) (model_form n) to.packable to.meaning to.steps to.names to.places to.few) to.groups

pub returns-in-Err-check_model-clause-refused : goal.returns-in-Err-check_model-clause-refused
returns-in-Err-check_model-clause-refused c =
    let m = model_form c.args.model in
    let n = model_form c.in-Ok-pack_checked.packed.model in
    let to = c.in-Ok-pack_checked.ensures in
    ill_typed_told m n
    (as_packed m n
    (is_counted c.args.model c.deref.result.now c.in_ok-is_flat_state_large.field-0 true c.in_ok-is_flat_state_large.ensures c.deref.ensures.value c.if-not-branch.false)
    (is_packed_to m n to.packable to.meaning to.steps to.names to.places to.few))
    c.args.names c.in-Err-check_model.error c.told_error-in-Err-check_model.result c.told_error-in-Err-check_model.ensures
    c.in-Err-check_model.ensures.fails c.in-Err-check_model.ensures.ill_typed
