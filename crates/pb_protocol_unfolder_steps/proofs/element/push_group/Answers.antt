use Rattle.std.proofs.Common.{◌≡◌, ◌+◌, ◌<◌, ◌++◌, List, map, length, get_or, refl, subst}
use Rattle.pb_protocol_tree.specs.declared.protocol.StateVariable.{StateVariable}
use Rattle.pb_protocol_unfolder_terms.specs.View.{spec_of}
use Rattle.pb_protocol_unfolder_steps.specs.Elements.{elements_of_variable}
use Rattle.pb_protocol_unfolder_steps.specs.Refusals.{IsPassed, IsPassedIn, element_place, places_of_group, places_of_variable}
use Rattle.pb_protocol_unfolder_steps.proofs.RefusalLemmas.{passed-in-all, refused}
use Rattle.pb_protocol_unfolder_steps.proofs.element.push_group.Goals as goal

pub returns-in_err-push_elements-clause-refused : goal.returns-in_err-push_elements-clause-refused
returns-in_err-push_elements-clause-refused c =
    let g = c.args.group.now in
    let k = c.loop-variable.variable-index in
    let y = c.variable-item.result in
    let spec = spec_of c.args.sorts in
    let now = c.loop-variable.elements.items in
    let zs = elements_of_variable spec g.sort y in
    let all = map element_place c.args.elements.now.items ++ places_of_group spec g in
    let in-group = subst (λ (v : List StateVariable). k < length v) c.deref-variable-items.ensures.value c.loop-variable-test.true in
    let is = subst (λ (v : List StateVariable). y ≡ get_or v k y) c.deref-variable-items.ensures.value c.variable-item.is in
    refused c.from_residual.result c.in_err-push_elements.field-0.0 (IsPassed 64 (length now + length zs) y.name.place) (IsPassedIn 64 all) c.from_residual.ensures.1
    (λ f. passed-in-all element_place (places_of_variable spec g.sort) 64 now all g.variables.items k y y.name.place zs
    f in-group is refl c.loop-variable.invariant.places c.loop-variable.invariant.few)
    c.in_err-push_elements.ensures.refused
