use Rattle.std.proofs.Common.{◌∙◌, ap, subst, List}
use Rattle.pb_base.specs.OrMemory.{IfRefused}
use Rattle.pb_text_tree.specs.declared.place.Place.{Place}
use Rattle.pb_protocol_tree.specs.Form.{protocol_form}
use Rattle.pb_protocol_unfolder_terms.specs.View.{spec_of}
use Rattle.pb_protocol_unfolder_steps.specs.Elements.{elements_of_state}
use Rattle.pb_protocol_unfolder_steps.specs.Refusals.{IsPassedIn, places_of_state}
use Rattle.pb_protocol_unfolder_steps.proofs.StateLemmas.{element-places-said, elements-said}
use Rattle.pb_protocol_unfolder_steps.proofs.WrittenLemmas.{are-elements}
use Rattle.pb_protocol_unfolder_steps.proofs.element.elements.Goals as goal

pub returns-clause-elements : goal.returns-clause-elements
returns-clause-elements c =
    let spec = spec_of c.sorts_of.result in
    let p = c.args.protocol.now in
    let made = c.elements_of.ensures in
    are-elements (protocol_form p) c.elements_of.result (λ v. v.items) _ _ (ap (elements_of_state spec) c.deref.ensures.value ∙ elements-said spec p c.sorts_of.ensures)
    (ap (places_of_state spec) c.deref.ensures.value ∙ element-places-said spec p c.sorts_of.ensures) made.elements made.places made.few

pub returns-clause-refused : goal.returns-clause-refused
returns-clause-refused c =
    subst (λ (v : List Place). IfRefused c.elements_of.result (IsPassedIn 64 v))
    (ap (places_of_state (spec_of c.sorts_of.result)) c.deref.ensures.value
    ∙ element-places-said (spec_of c.sorts_of.result) c.args.protocol.now c.sorts_of.ensures)
    c.elements_of.ensures.refused
