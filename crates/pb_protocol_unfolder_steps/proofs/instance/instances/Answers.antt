use Rattle.std.proofs.Common.{◌∙◌, ap, subst, List}
use Rattle.pb_base.specs.OrMemory.{IfRefused}
use Rattle.pb_text_tree.specs.declared.place.Place.{Place}
use Rattle.pb_protocol_tree.specs.declared.protocol.Protocol.{Protocol}
use Rattle.pb_protocol_tree.specs.Form.{protocol_form}
use Rattle.pb_protocol_meaning.specs.Erase.{protocol_of}
use Rattle.pb_protocol_unfolder_steps.specs.declared.limits.TheConstants.{MAX_WRITTEN_STEPS}
use Rattle.pb_protocol_unfolder_steps.specs.Elements.{instances_of_steps}
use Rattle.pb_protocol_unfolder_steps.specs.StepFaults.{forms_of_steps}
use Rattle.pb_protocol_unfolder_steps.specs.Refusals.{IsPassedIn, places_of_steps}
use Rattle.pb_protocol_unfolder_steps.proofs.StateLemmas.{instance-forms-said, instance-places-said, instances-said}
use Rattle.pb_protocol_unfolder_steps.proofs.WrittenLemmas.{are-instances}
use Rattle.pb_protocol_unfolder_steps.proofs.instance.instances.Goals as goal

pub returns-clause-instances : goal.returns-clause-instances
returns-clause-instances c =
    let p = c.args.whole.now in
    let m = protocol_of p in
    let steps = c.deref.ensures.value ∙ ap (λ (q : Protocol). q.steps.items) c.protocol-protocol.ensures in
    let made = c.instances_of.ensures in
    are-instances (protocol_form p) c.instances_of.result (λ v. v.items) _ _ _ (ap (instances_of_steps m) steps ∙ instances-said p) (ap (places_of_steps m) steps ∙ instance-places-said p)
    (ap (forms_of_steps m) steps ∙ instance-forms-said p) made.instances made.places made.forms made.few

pub returns-clause-refused : goal.returns-clause-refused
returns-clause-refused c =
    let p = c.args.whole.now in
    let steps = c.deref.ensures.value ∙ ap (λ (q : Protocol). q.steps.items) c.protocol-protocol.ensures in
    subst (λ (v : List Place). IfRefused c.instances_of.result (IsPassedIn MAX_WRITTEN_STEPS v)) (ap (places_of_steps (protocol_of p)) steps ∙ instance-places-said p)
    c.instances_of.ensures.refused
