use Rattle.std.proofs.Common.{map}
use Rattle.pb_protocol_tree.specs.Form.{step_set_form}
use Rattle.pb_protocol_unfolder_steps.specs.Elements.{instance_said}
use Rattle.pb_protocol_unfolder_steps.specs.Unfolder.{protocol_in, scope_within}
use Rattle.pb_protocol_unfolder.specs.Faults.{IsFaultOfSet, IsFaultOfSteps}
use Rattle.pb_protocol_unfolder.proofs.FaultLemmas.{at-item, part}
use Rattle.pb_protocol_unfolder.proofs.step_set.members.Goals as goal

pub returns-in_err-push_member-clause-refused : goal.returns-in_err-push_member-clause-refused
returns-in_err-push_member-clause-refused c =
    let u = c.args.unfolder.now in
    let m = protocol_in u in
    let ρ = scope_within u c.args.scope.now.names in
    let all = c.args.instances.now in
    let A = step_set_form c.args.set.now in
    let x = c.instance-item.result in
    part c.from_residual.result c.in_err-push_member.field-0.0 (IsFaultOfSet m ρ (instance_said x).own A) (IsFaultOfSteps m ρ (map instance_said all) A) c.from_residual.ensures.1
    (λ p is. (instance_said x, at-item instance_said all c.loop-instance.instance-index x c.loop-instance-test.true c.instance-item.is, is)) c.in_err-push_member.ensures.refused
