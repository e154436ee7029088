use Rattle.std.proofs.Common.{◌++◌, map}
use Rattle.pb_protocol_unfolder_terms.specs.View.{spec_of}
use Rattle.pb_protocol_unfolder_steps.specs.Refusals.{IsPassedIn, element_place, places_of_group, places_of_state}
use Rattle.pb_protocol_unfolder_steps.proofs.RefusalLemmas.{passed-in-part, refused}
use Rattle.pb_protocol_unfolder_steps.proofs.element.elements_of.Goals as goal

pub returns-in_err-push_group-clause-refused : goal.returns-in_err-push_group-clause-refused
returns-in_err-push_group-clause-refused c =
    let gs = c.args.state.now in
    let g = c.group-item.result in
    let spec = spec_of c.args.sorts in
    let now = c.loop-group.elements.items in
    let all = places_of_state spec gs in
    refused c.from_residual.result c.in_err-push_group.field-0.0 (IsPassedIn 64 (map element_place now ++ places_of_group spec g)) (IsPassedIn 64 all) c.from_residual.ensures.1
    (λ f. passed-in-part element_place (places_of_group spec) 64 now all gs c.loop-group.group-index g f c.loop-group-test.true c.group-item.is c.loop-group.invariant.places)
    c.in_err-push_group.ensures.refused
