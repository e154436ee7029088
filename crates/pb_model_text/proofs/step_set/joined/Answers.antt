use Rattle.std.proofs.Common.{ap, ◌∙◌}
use Rattle.pb_text_tree.specs.Form.{chained}
use Rattle.pb_protocol_tree.specs.Form.{StepSetForm, step_set_form}
use Rattle.pb_protocol_tree.specs.Links.{step_set_links}
use Rattle.pb_protocol_tree.proofs.CopyLemmas.{set-union}
use Rattle.pb_model_text.proofs.step_set.joined.Goals as goal

pub returns : goal.returns
returns c =
    set-union c.in_ok-first.first c.args.links ∙ ap (λ a. chained StepSetForm.union (step_set_form a) (step_set_links c.args.links.items)) c.in_ok-first.ensures.ok
