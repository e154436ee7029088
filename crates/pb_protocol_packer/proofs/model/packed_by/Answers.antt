use Rattle.std.proofs.Common.{◌≡◌, ◌∙◌, List, [], map, ap, sym}
use Rattle.pb_text_tree.specs.declared.sort.SortDeclaration as tree_declaration
use Rattle.pb_text_tree.specs.declared.sort.Range as tree_range
use Rattle.pb_model_tree.specs.declared.step.Step as tree_step
use Rattle.pb_model_tree.specs.declared.model.Property as tree_property
use Rattle.pb_model_meaning.specs.Erase.{model_of}
use Rattle.pb_protocol_packing.specs.Said.{Scope}
use Rattle.pb_protocol_packing.specs.Packing.{packed_step, with_groups, with_sorts, with_ranges}
use Rattle.pb_protocol_packer.specs.View.{terms_of}
use Rattle.pb_protocol_packer.specs.Groups.{groups_in}
use Rattle.pb_protocol_packer.specs.Scopes.{table_of}
use Rattle.pb_protocol_packer.specs.Declarations.{declarations_in, ranges_in}
use Rattle.pb_protocol_packer.specs.Properties.{erased_step_list, properties_in, property_said}
use Rattle.pb_protocol_packer.proofs.Nodes.{erased-all}
use Rattle.pb_protocol_packer.proofs.DeclarationRows.{declaration-forms, range-forms}
use Rattle.pb_protocol_packer.proofs.InitialRows.{argument-places}
use Rattle.pb_protocol_packer.proofs.ModelRows.{step-forms, property-forms, initial-same, model-same}
use Rattle.pb_protocol_packer.proofs.model.packed_by.Goals as goal

pub returns-clause-meaning : goal.returns-clause-meaning
returns-clause-meaning c =
    let model = c.args.model.now in
    let m = model_of model in
    let gs = groups_in c.args.groups.now in
    let table : table_of c.deref.result.now ≡ with_groups gs [] = ap table_of c.deref.ensures.value ∙ c.in_ok-table.ensures in
    model-same
    (declaration-forms c.in_ok-sorts.sorts.items ∙ c.in_ok-sorts.ensures
    ∙ ap (λ (ds : List tree_declaration.SortDeclaration). with_sorts gs (declarations_in ds)) c.deref-4.ensures.value
    ∙ ap (with_sorts gs) (sym (declaration-forms model.sorts.items)))
    (range-forms c.in_ok-ranges.ranges.items ∙ c.in_ok-ranges.ensures
    ∙ ap (λ (rs : List tree_range.Range). with_ranges gs (ranges_in rs)) c.deref-5.ensures.value
    ∙ ap (with_ranges gs) (sym (range-forms model.ranges.items)))
    c.in_ok-state.ensures
    (step-forms c.in_ok-steps.steps.items ∙ c.in_ok-steps.ensures.meaning
    ∙ ap (λ (ss : List tree_step.Step). map (packed_step gs) (erased_step_list ss)) c.deref-2.ensures.value
    ∙ ap (map (packed_step gs)) (sym (step-forms model.steps.items)))
    (erased-all c.in_ok-initial.initial.values.items ∙ c.in_ok-initial.ensures.terms
    ∙ initial-same m gs (terms_of model.initial.values.items) (sym (erased-all model.initial.values.items)))
    (property-forms c.in_ok-properties.properties.items ∙ c.in_ok-properties.ensures.meaning
    ∙ ap (λ (ps : List tree_property.Property). map (property_said (table_of c.deref.result.now)) (properties_in ps)) c.deref-3.ensures.value
    ∙ ap (λ (σ : Scope). map (property_said σ) (properties_in model.properties.items)) table
    ∙ ap (map (property_said (with_groups gs []))) (sym (property-forms model.properties.items)))

pub returns-clause-initial : goal.returns-clause-initial
returns-clause-initial c = argument-places c.in_ok-initial.initial.values.items ∙ c.in_ok-initial.ensures.places
