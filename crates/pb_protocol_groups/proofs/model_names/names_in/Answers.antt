use Rattle.std.proofs.Common.{◌∙◌, ◌++◌, ap, sym, List, flat_map}
use Rattle.pb_text_tree.specs.declared.variable.Variables.{Variables}
use Rattle.pb_text_tree.specs.declared.sort.SortDeclaration.{SortDeclaration}
use Rattle.pb_text_tree.specs.declared.term.Argument.{Argument}
use Rattle.pb_model_tree.specs.declared.step.Step.{Step}
use Rattle.pb_model_tree.specs.declared.model.Property.{Property}
use Rattle.pb_protocol_packing.specs.Groups.{variable_names, all_term_names, sort_names, step_names}
use Rattle.pb_protocol_packer.specs.View.{terms_of, variables_in}
use Rattle.pb_protocol_packer.specs.Declarations.{declarations_in}
use Rattle.pb_protocol_packer.specs.Properties.{erased_step_list, properties_in}
use Rattle.pb_protocol_packer.specs.Initial.{names_by}
use Rattle.pb_protocol_groups.specs.Names.{names_in_property}
use Rattle.pb_protocol_groups.proofs.Rows.{model-parts, five-parts}
use Rattle.pb_protocol_groups.proofs.model_names.names_in.Goals as goal

pub returns : goal.returns
returns c =
    let m = c.args.model.now in
    let old = names_by c.new-names.result.items in
    let at = λ (vs : List Variables). variable_names (variables_in vs) in
    let ds = λ (xs : List SortDeclaration). flat_map sort_names (declarations_in xs) in
    let ss = λ (xs : List Step). flat_map step_names (erased_step_list xs) in
    let ts = λ (xs : List Argument). all_term_names (terms_of xs) in
    let ps = λ (xs : List Property). flat_map names_in_property (properties_in xs) in
    five-parts old _ _ _ _ (names_by c.push_properties.new.names.items) (at m.state.items) (ds m.sorts.items) (ss m.steps.items) (ts m.initial.values.items) (ps m.properties.items)
    (ap names_by c.new-names.ensures.items)
    (c.in_ok-push_variables.ensures ∙ ap (λ (xs : List Variables). old ++ at xs) c.deref.ensures.value)
    (c.in_ok-push_sorts.ensures ∙ ap (λ (xs : List SortDeclaration). names_by c.push_variables.new.names.items ++ ds xs) c.deref-2.ensures.value)
    (c.in_ok-push_steps.ensures ∙ ap (λ (xs : List Step). names_by c.push_sorts.new.names.items ++ ss xs) c.deref-3.ensures.value)
    (c.in_ok-push_arguments.ensures ∙ ap (λ (xs : List Argument). names_by c.push_steps.new.names.items ++ ts xs) c.deref-4.ensures.value)
    (c.in_ok-push_properties.ensures ∙ ap (λ (xs : List Property). names_by c.push_arguments.new.names.items ++ ps xs) c.deref-5.ensures.value)
    ∙ sym (model-parts m)
