use Rattle.std.proofs.Common.{◌∙◌, List, map, ap, sym, rules}
use Rattle.pb_text_tree.specs.Form.{Named}
use Rattle.pb_typing_declarations.specs.Faults.{IsAmong}
use Rattle.pb_typing_declarations.proofs.Parts.{among_left, among_right, no_whole}
use Rattle.pb_model_tree.specs.Form.{model_form}
use Rattle.pb_model_meaning.specs.Erase.{model_of}
use Rattle.pb_model_runs.specs.Exact.{formula_places}
use Rattle.pb_protocol_packing.specs.Packing as packing
use Rattle.pb_protocol_packer.specs.declared.group.Group as declared_group
use Rattle.pb_protocol_packer.specs.Groups.{groups_in}
use Rattle.pb_protocol_packer.specs.InitialPlaces.{initial_places}
use Rattle.pb_protocol_groups.specs.Checks.{packing_faults, test_faults}
use Rattle.pb_protocol_groups.specs.Sizes.{size_faults}
use Rattle.pb_protocol_groups.proofs.Places.{named-properties, property-places, step-places}
use Rattle.pb_protocol_groups.proofs.packing.pack_checked.Goals as goal

pub returns-in_err-check_packable-clause-refused : goal.returns-in_err-check_packable-clause-refused
returns-in_err-check_packable-clause-refused c =
    let m = model_form c.args.model.now in
    let e = c.in_err-check_packable.field-0.0 in
    let h : IsAmong (packing_faults m) e = among_left (test_faults m) (size_faults m) e c.in_err-check_packable.ensures.checked in
    search rules

pub returns-in_err-groups-clause-refused : goal.returns-in_err-groups-clause-refused
returns-in_err-groups-clause-refused c =
    let m = model_form c.args.model.now in
    let e = c.in_err-groups.field-0.0 in
    let h : IsAmong (packing_faults m) e = among_right (test_faults m) (size_faults m) e c.in_err-groups.ensures.few in
    search rules

pub returns : goal.returns
returns c =
    let m = c.args.model.now in
    let n = c.in_ok-model.model in
    let M = model_of m in
    record {
      packable = c.in_ok-check_packable.ensures.accepted;
      groups = c.in_ok-groups.ensures.groups;
      meaning = c.in_ok-model.ensures.meaning ∙ ap (λ (gs : List declared_group.Group). packing.packed_by (groups_in gs) M) c.deref.ensures.value
          ∙ ap (λ (gs : List packing.Group). packing.packed_by gs M) c.in_ok-groups.ensures.groups;
      initial = c.in_ok-model.ensures.initial ∙ ap (λ (gs : List declared_group.Group). initial_places (groups_in gs) (model_form m)) c.deref.ensures.value
          ∙ ap (λ (gs : List packing.Group). initial_places gs (model_form m)) c.in_ok-groups.ensures.groups;
      steps = step-places n.steps.items ∙ ap (map (λ (x : Named). x.place)) c.in_ok-model.ensures.steps ∙ sym (step-places m.steps.items);
      names = named-properties n.properties.items ∙ c.in_ok-model.ensures.names ∙ sym (named-properties m.properties.items);
      places = property-places n.properties.items ∙ ap (map formula_places) c.in_ok-model.ensures.shapes ∙ sym (property-places m.properties.items);
      few = c.in_ok-groups.ensures.few;
      accepted = no_whole (test_faults (model_form m)) (size_faults (model_form m)) c.in_ok-check_packable.ensures.checked c.in_ok-groups.ensures.few;
      refused = tt;
    }
