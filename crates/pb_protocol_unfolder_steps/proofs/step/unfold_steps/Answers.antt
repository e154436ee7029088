use Rattle.std.proofs.Common.{◌≡◌, ◌∙◌, ◌+◌, ◌++◌, ap, sym, subst, arith, [], ◌∷◌, map, flat_map, drop, length}
use Rattle.std.proofs.lemmas.List.{append-nil, drop_all}
use Rattle.std.specs.Prelude.{IfSome}
use Rattle.pb_protocol_unfolder_steps.specs.Elements.{instance_said}
use Rattle.pb_protocol_unfolder_steps.specs.Steps.{is_kept, kept_step, place_of_step, step_found, step_place, step_said}
use Rattle.pb_protocol_unfolder_steps.specs.StepFaults.{IsFaultInStep, IsFaultInSteps, OnTerm, placed_instance}
use Rattle.pb_protocol_unfolder_steps.specs.Unfolder.{form_in, protocol_in}
use Rattle.pb_protocol_unfolder_steps.proofs.StepFaultLemmas.{term-in}
use Rattle.pb_protocol_unfolder_terms.proofs.MetLemmas.{item-in, mapped-in}
use Rattle.pb_protocol_unfolder_steps.proofs.RefusalLemmas.{refused}
use Rattle.pb_protocol_unfolder_steps.proofs.StepLemmas.{drop-next, found-kept, kept-steps, one-kept, one-step}
use Rattle.pb_protocol_unfolder_steps.proofs.step.unfold_steps.Goals as goal

pub loop-instance-preserved : goal.loop-instance-preserved
loop-instance-preserved c =
    let m = protocol_in c.args.unfolder.now in
    let is = c.args.instances.now in
    let k = c.loop-instance.instance-index in
    let x = c.instance-item.result in
    let old = c.loop-instance.unfolded in
    let new = c.push.new.self in
    let found = c.in_ok-unfold_step.field-0 in
    let rest = map instance_said (drop (k + 1) is) in
    let next : drop k is ≡ x ∷ drop (k + 1) is = drop-next is k x c.loop-instance-test.true c.instance-item.is in
    let steps = ap (λ v. map step_said old.steps.items ++ flat_map (kept_step m) (map instance_said v)) (sym next) ∙ c.loop-instance.invariant.steps in
    let kept = ap (λ v. old.kept.items ++ map (is_kept m) (map instance_said v)) (sym next) ∙ c.loop-instance.invariant.kept in
    let line : c.len.result ≡ length old.steps.items = omega (arith, c.len.ensures, old.steps.ok.0) in
    let place = subst (λ p. IfSome found (λ a. step_place a ≡ p)) (ap place_of_step line) c.in_ok-unfold_step.ensures.step.at in
    record {
      steps = one-step (kept_step m) _ (map step_said old.steps.items) (map step_said new.steps.items)
          (step_found found) (instance_said x) rest c.in_ok-push.ensures.steps c.in_ok-unfold_step.ensures.step.step steps;
      kept = one-kept (is_kept m) _ old.kept.items new.kept.items _ (instance_said x) rest c.in_ok-push.ensures.kept (found-kept m (instance_said x) found c.in_ok-unfold_step.ensures.step.step) kept;
      places = c.in_ok-push.ensures.places c.loop-instance.invariant.places place;
      count = omega (arith, c.in_ok-push.ensures.count, c.loop-instance.invariant.count);
    }

pub returns-clause-steps : goal.returns-clause-steps
returns-clause-steps c =
    let ss = map step_said c.loop-instance.unfolded.steps.items in
    let end : drop c.loop-instance.instance-index c.args.instances.now ≡ [] = drop_all c.loop-instance.instance-index c.args.instances.now c.loop-instance-test.false in
    sym (append-nil ss) ∙ ap (λ v. ss ++ flat_map (kept_step (protocol_in c.args.unfolder.now)) (map instance_said v)) (sym end)
    ∙ c.loop-instance.invariant.steps ∙ kept-steps (protocol_in c.args.unfolder.now) (map instance_said c.args.instances.now)

pub returns-in_err-unfold_step-clause-refused : goal.returns-in_err-unfold_step-clause-refused
returns-in_err-unfold_step-clause-refused c =
    let F = form_in c.args.unfolder.now in
    let all = c.args.instances.now in
    let here = c.instance-item.result in
    let P = IsFaultInStep F (placed_instance here) in
    let Q = IsFaultInSteps F (map placed_instance all) in
    let there = mapped-in placed_instance all here (item-in all c.loop-instance.instance-index here c.loop-instance-test.true c.instance-item.is) in
    refused c.from_residual.result c.in_err-unfold_step.field-0.0 (OnTerm P) (OnTerm Q) c.from_residual.ensures.1
    (term-in P Q (λ r p o. (placed_instance here, there, o))) c.in_err-unfold_step.ensures.refused
