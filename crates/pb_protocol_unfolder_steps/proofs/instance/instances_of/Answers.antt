use Rattle.std.proofs.Common.{◌+◌, length, refl}
use Rattle.pb_protocol_meaning.specs.Erase.{protocol_of}
use Rattle.pb_protocol_unfolder_steps.specs.declared.limits.TheConstants.{MAX_WRITTEN_STEPS}
use Rattle.pb_protocol_unfolder_steps.specs.Elements.{instances_of_step}
use Rattle.pb_protocol_unfolder_steps.specs.Refusals.{IsPassed, IsPassedIn, instance_place, places_of_step, places_of_steps}
use Rattle.pb_protocol_unfolder_steps.proofs.RefusalLemmas.{passed-in-all, refused}
use Rattle.pb_protocol_unfolder_steps.proofs.instance.instances_of.Goals as goal

pub returns-in_err-push_instances-clause-refused : goal.returns-in_err-push_instances-clause-refused
returns-in_err-push_instances-clause-refused c =
    let steps = c.args.steps.now in
    let a = c.step-item.result in
    let m = protocol_of c.args.whole.now in
    let now = c.loop-step.instances.items in
    let zs = instances_of_step m a in
    let all = places_of_steps m steps in
    refused c.from_residual.result c.in_err-push_instances.field-0.0 (IsPassed MAX_WRITTEN_STEPS (length now + length zs) a.name.place) (IsPassedIn MAX_WRITTEN_STEPS all) c.from_residual.ensures.1
    (λ f. passed-in-all instance_place (places_of_step m) MAX_WRITTEN_STEPS now all steps c.loop-step.step-index a a.name.place zs
    f c.loop-step-test.true c.step-item.is refl c.loop-step.invariant.places c.loop-step.invariant.few)
    c.in_err-push_instances.ensures.refused
