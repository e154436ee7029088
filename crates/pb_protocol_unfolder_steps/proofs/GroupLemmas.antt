-- The variables of groups, as the definitions have them.
use Rattle.std.proofs.Common.{◌≡◌, ◌∙◌, refl, sym, ap, List, [], ◌∷◌, ◌++◌, map}
use Rattle.pb_text_tree.specs.declared.name.Name.{Name}
use Rattle.pb_text_tree.specs.declared.variable.Variables.{Variables}
use Rattle.pb_text_tree.specs.Form.{VariableForm, named, variables_form, variable_forms}
use Rattle.pb_text_meaning.specs.Erase.{erased_variable, erased_variables}
use Rattle.pb_protocol_unfolder_steps.specs.Groups.{variable_named, groups_said}

map-appended : (xs ys : List VariableForm) → map erased_variable (xs ++ ys) ≡ map erased_variable xs ++ map erased_variable ys
map-appended [] ys = refl
map-appended (x ∷ xs) ys = ap (λ v. erased_variable x ∷ v) (map-appended xs ys)

names-said : (sort : Name) (ns : List Name) → map (variable_named sort) ns ≡ map erased_variable (map (λ (n : Name). let v : VariableForm = record { name = named n; sort = named sort } in v) ns)
names-said sort [] = refl
names-said sort (n ∷ ns) = ap (λ v. variable_named sort n ∷ v) (names-said sort ns)

pub groups-erased : (gs : List Variables) → groups_said gs ≡ erased_variables (variable_forms gs)
groups-erased [] = refl
groups-erased (g ∷ gs) =
    ap (λ v. v ++ groups_said gs) (names-said g.sort g.names.items)
    ∙ ap (λ v. map erased_variable (variables_form g) ++ v) (groups-erased gs)
    ∙ sym (map-appended (variables_form g) (variable_forms gs))
