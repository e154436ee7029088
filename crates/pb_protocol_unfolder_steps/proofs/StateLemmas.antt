-- Sorts, elements and steps of a tree, as those of its protocol.
use Rattle.std.proofs.Common.{◌≡◌, ◌∙◌, refl, sym, ap, List, [], ◌∷◌, ◌++◌, map, flat_map}
use Rattle.std.proofs.lemmas.List.{append_assoc}
use Rattle.std.proofs.lemmas.Grind.{flat_map-append}
use Rattle.pb_text_tree.specs.declared.name.Name.{Name}
use Rattle.pb_text_tree.specs.declared.sort.Range.{Range}
use Rattle.pb_text_tree.specs.declared.sort.SortDeclaration.{SortDeclaration}
use Rattle.pb_text_tree.specs.Form.{sort_declaration_form}
use Rattle.pb_text_meaning.specs.Syntax as syntax
use Rattle.pb_text_meaning.specs.Syntax.{Spec, NoTerms}
use Rattle.pb_text_meaning.specs.Erase.{erased_declaration}
use Rattle.pb_protocol_folding.specs.View.{declaration_of}
use Rattle.pb_protocol_tree.specs.declared.protocol.Protocol as declared_protocol
use Rattle.pb_protocol_tree.specs.declared.protocol.StateVariable as declared_variable
use Rattle.pb_protocol_tree.specs.declared.protocol.StateVariables as declared_state
use Rattle.pb_protocol_tree.specs.declared.step.Step as declared_step
use Rattle.pb_protocol_tree.specs.Form.{StateVariableForm, protocol_form, state_variable_form, state_variables_form, step_form}
use Rattle.pb_protocol_meaning.specs.Syntax.{Protocol}
use Rattle.pb_protocol_meaning.specs.Erase.{protocol_of, erased_state_variable, erased_step}
use Rattle.pb_protocol_meaning.specs.Steps.{data_of}
use Rattle.pb_protocol_unfolding.specs.Unfolding.{elements_of, instances_of, all_elements, instances}
use Rattle.pb_protocol_unfolder_terms.specs.View.{declarations, ranges_said}
use Rattle.pb_protocol_unfolder_steps.specs.Elements.{elements_of_variable, elements_of_state, instances_of_step, instances_of_steps}
use Rattle.pb_protocol_unfolder_steps.specs.StepFaults.{forms_of_step, forms_of_steps, placed_instances, placed_instances_of}
use Rattle.pb_protocol_unfolder_steps.specs.Refusals.{element_places, instance_places, places_of_elements, places_of_instances, places_of_state, places_of_step, places_of_steps, places_of_variable}

sorts-said : (ds : List SortDeclaration) → declarations ds ≡ map erased_declaration (map sort_declaration_form ds)
sorts-said [] = refl
sorts-said (d ∷ ds) = ap (λ v. declaration_of d ∷ v) (sorts-said ds)

abbrev spec_with : List syntax.SortDeclaration → List syntax.Range → Spec
spec_with sorts ranges = record {
  sorts = sorts;
  ranges = ranges;
  equations = [];
  initial = [];
  arguments = NoTerms;
}

-- the sorts of a tree are those of its protocol
pub spec-said : (p : declared_protocol.Protocol) (ds : List SortDeclaration) (rs : List Range) → ds ≡ p.sorts.items
    → rs ≡ p.ranges.items → spec_with (declarations ds) (ranges_said rs) ≡ data_of (protocol_of p)
spec-said p ds rs sorts ranges =
    ap (λ (v : List SortDeclaration). spec_with (declarations v) (ranges_said rs)) sorts
    ∙ ap (λ (v : List syntax.SortDeclaration). spec_with v (ranges_said rs)) (sorts-said p.sorts.items)
    ∙ ap (λ (v : List Range). spec_with (map erased_declaration (map sort_declaration_form p.sorts.items)) (ranges_said v)) ranges

-- ---- elements

flat-append : (spec : Spec) (xs ys : List StateVariableForm)
    → flat_map (elements_of spec) (map erased_state_variable (xs ++ ys))
    ≡ flat_map (elements_of spec) (map erased_state_variable xs) ++ flat_map (elements_of spec) (map erased_state_variable ys)
flat-append spec [] ys = refl
flat-append spec (x ∷ xs) ys =
    ap (λ v. elements_of spec (erased_state_variable x) ++ v) (flat-append spec xs ys)
    ∙ sym (append_assoc (elements_of spec (erased_state_variable x)) (flat_map (elements_of spec) (map erased_state_variable xs)) (flat_map (elements_of spec) (map erased_state_variable ys)))

of-group : (spec : Spec) (sort : Name) (ys : List declared_variable.StateVariable)
    → flat_map (elements_of_variable spec sort) ys
    ≡ flat_map (elements_of spec) (map erased_state_variable (map (state_variable_form sort) ys))
of-group spec sort [] = refl
of-group spec sort (y ∷ ys) = ap (λ v. elements_of_variable spec sort y ++ v) (of-group spec sort ys)

of-state : (spec : Spec) (gs : List declared_state.StateVariables) → elements_of_state spec gs ≡ flat_map (elements_of spec) (map erased_state_variable (flat_map state_variables_form gs))
of-state spec [] = refl
of-state spec (g ∷ gs) =
    ap (λ v. v ++ elements_of_state spec gs) (of-group spec g.sort g.variables.items)
    ∙ ap (λ v. flat_map (elements_of spec) (map erased_state_variable (state_variables_form g)) ++ v) (of-state spec gs)
    ∙ sym (flat-append spec (state_variables_form g) (flat_map state_variables_form gs))

-- the elements of a tree's state variables are those of its protocol
pub elements-said : (spec : Spec) (p : declared_protocol.Protocol) → spec ≡ data_of (protocol_of p) → elements_of_state spec p.state.items ≡ all_elements (protocol_of p)
elements-said spec p same = ap (λ (s : Spec). elements_of_state s p.state.items) same ∙ of-state (data_of (protocol_of p)) p.state.items

places-of-group : (spec : Spec) (sort : Name) (ys : List declared_variable.StateVariable)
    → flat_map (places_of_variable spec sort) ys ≡ flat_map (places_of_elements spec) (map (state_variable_form sort) ys)
places-of-group spec sort [] = refl
places-of-group spec sort (y ∷ ys) = ap (λ v. places_of_variable spec sort y ++ v) (places-of-group spec sort ys)

places-of-state : (spec : Spec) (gs : List declared_state.StateVariables) → places_of_state spec gs ≡ flat_map (places_of_elements spec) (flat_map state_variables_form gs)
places-of-state spec [] = refl
places-of-state spec (g ∷ gs) =
    ap (λ v. v ++ places_of_state spec gs) (places-of-group spec g.sort g.variables.items)
    ∙ ap (λ v. flat_map (places_of_elements spec) (state_variables_form g) ++ v) (places-of-state spec gs)
    ∙ sym (flat_map-append (places_of_elements spec) (state_variables_form g) (flat_map state_variables_form gs))

-- and where they stand
pub element-places-said : (spec : Spec) (p : declared_protocol.Protocol) → spec ≡ data_of (protocol_of p) → places_of_state spec p.state.items ≡ element_places (protocol_form p)
element-places-said spec p same = ap (λ (s : Spec). places_of_state s p.state.items) same ∙ places-of-state (data_of (protocol_of p)) p.state.items

-- ---- steps with their values

of-steps : (m : Protocol) (steps : List declared_step.Step) → instances_of_steps m steps ≡ flat_map (instances_of m) (map erased_step (map step_form steps))
of-steps m [] = refl
of-steps m (a ∷ steps) = ap (λ v. instances_of_step m a ++ v) (of-steps m steps)

pub instances-said : (p : declared_protocol.Protocol) → instances_of_steps (protocol_of p) p.steps.items ≡ instances (protocol_of p)
instances-said p = of-steps (protocol_of p) p.steps.items

places-of-all : (m : Protocol) (steps : List declared_step.Step) → places_of_steps m steps ≡ flat_map (places_of_instances m) (map step_form steps)
places-of-all m [] = refl
places-of-all m (a ∷ steps) = ap (λ v. places_of_step m a ++ v) (places-of-all m steps)

forms-of-all : (m : Protocol) (steps : List declared_step.Step) → forms_of_steps m steps ≡ flat_map (placed_instances_of m) (map step_form steps)
forms-of-all m [] = refl
forms-of-all m (a ∷ steps) = ap (λ v. forms_of_step m a ++ v) (forms-of-all m steps)

pub instance-forms-said : (p : declared_protocol.Protocol) → forms_of_steps (protocol_of p) p.steps.items ≡ placed_instances (protocol_form p)
instance-forms-said p = forms-of-all (protocol_of p) p.steps.items

pub instance-places-said : (p : declared_protocol.Protocol) → places_of_steps (protocol_of p) p.steps.items ≡ instance_places (protocol_form p)
instance-places-said p = places-of-all (protocol_of p) p.steps.items
