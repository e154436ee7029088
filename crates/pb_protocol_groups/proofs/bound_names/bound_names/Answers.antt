use Rattle.std.proofs.Common.{◌∙◌, ◌++◌, ap, List, flat_map, map}
use Rattle.pb_text_tree.specs.declared.variable.Variables.{Variables}
use Rattle.pb_text_tree.specs.declared.term.Argument.{Argument}
use Rattle.pb_text_tree.specs.Form.{argument_forms, variable_forms}
use Rattle.pb_typing_declarations.specs.Declarations.{variable_names}
use Rattle.pb_model_tree.specs.declared.step.Step.{Step}
use Rattle.pb_model_tree.specs.declared.model.Property.{Property}
use Rattle.pb_model_tree.specs.Form.{property_form, step_form}
use Rattle.pb_protocol_typing.specs.View.{names_in}
use Rattle.pb_protocol_groups.specs.Bound.{all_bound_names, step_bound_names, property_bound_names}
use Rattle.pb_protocol_groups.proofs.Bound.{four-parts}
use Rattle.pb_protocol_groups.proofs.bound_names.bound_names.Goals as goal

pub returns : goal.returns
returns c =
    let m = c.args.model.now in
    let old = names_in c.new-names.result.items in
    let at = λ (vs : List Variables). variable_names (variable_forms vs) in
    let ss = λ (xs : List Step). flat_map step_bound_names (map step_form xs) in
    let ts = λ (xs : List Argument). all_bound_names (argument_forms xs) in
    let ps = λ (xs : List Property). flat_map property_bound_names (map property_form xs) in
    four-parts old _ _ _ (names_in c.push_properties.new.names.items) (at m.state.items) (ss m.steps.items) (ts m.initial.values.items) (ps m.properties.items)
    (ap names_in c.new-names.ensures.items)
    (c.in_ok-push_names.ensures ∙ ap (λ (xs : List Variables). old ++ at xs) c.deref.ensures.value)
    (c.in_ok-push_steps.ensures ∙ ap (λ (xs : List Step). names_in c.push_names.new.names.items ++ ss xs) c.deref-2.ensures.value)
    (c.in_ok-push_arguments.ensures ∙ ap (λ (xs : List Argument). names_in c.push_steps.new.names.items ++ ts xs) c.deref-3.ensures.value)
    (c.in_ok-push_properties.ensures ∙ ap (λ (xs : List Property). names_in c.push_arguments.new.names.items ++ ps xs) c.deref-4.ensures.value)
