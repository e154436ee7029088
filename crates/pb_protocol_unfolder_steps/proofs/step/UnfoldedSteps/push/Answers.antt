use Rattle.std.proofs.Common.{◌≡◌, length, subst}
use Rattle.std.specs.Prelude.{IfSome}
use Rattle.pb_protocol_unfolder_steps.specs.Steps.{place_of_step, step_place}
use Rattle.pb_protocol_unfolder_steps.proofs.StepLemmas.{one-place}
use Rattle.pb_protocol_unfolder_steps.proofs.step.UnfoldedSteps.push.Goals as goal

pub returns-in_ok-push-clause-places : goal.returns-in_ok-push-clause-places
returns-in_ok-push-clause-places c = λ before at.
    let ss = c.args.self.now.steps.items in
    let here = subst (λ f. IfSome f (λ a. step_place a ≡ place_of_step (length ss))) c.in-Some.is at in
    one-place ss c.push-in-Some.new.self.items c.in-Some.step c.in_ok-push.ensures.items before here
