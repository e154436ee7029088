use Rattle.std.proofs.Common.{rules, ◌≢◌, ◌∙◌, ap, length}
use Rattle.pb_text_tree.specs.Form.{named}
use Rattle.pb_protocol_tree.specs.Form.{StepSetForm}
use Rattle.pb_model_text.proofs.InstanceLemmas.{some-instances}
use Rattle.pb_model_text.proofs.instances.set_of.Goals as goal

pub returns : goal.returns
returns c =
    let some : length c.args.instance.arguments.items ≢ 0 = search rules in
    ap (StepSetForm.instances (named c.args.instance.name)) c.in_ok-values.ensures ∙ some-instances (named c.args.instance.name) c.args.instance.arguments.items some
