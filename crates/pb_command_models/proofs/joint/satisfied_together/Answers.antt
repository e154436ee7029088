-- Where the text of what the properties say together is true, each of them is satisfied.
use Rattle.std.proofs.Common.{Option, sym, subst}
use Rattle.std.specs.Prelude.{IfSome}
use Rattle.pb_model_tree.specs.Form.{model_form}
use Rattle.pb_model_properties.specs.declared.joint.JointText.{JointText}
use Rattle.pb_model_properties.specs.Joint.{joint_property_at, IsJointText}
use Rattle.pb_command_models.proofs.joint.satisfied_together.Goals as goal

pub returns-then-branch : goal.returns-then-branch
returns-then-branch g c =
    let model = model_form c.args.solved.now.typed.model in
    let places = c.args.places.now in
    let joint : IsJointText model places c.in-Some.joint = subst (λ (o : Option JointText). IfSome o (IsJointText model places)) c.in-Some.is c.in_ok-joint.ensures in
    let p = joint_property_at model c.in-Some.joint.places.items in
    joint.holds (sym (c.in_ok-is_satisfied.ensures c.if-branch.true model p (c.in_ok-module.ensures model p joint.text)))
