use Rattle.std.proofs.Common.{◌∙◌, sym, ap}
use Rattle.pb_protocol_tree.specs.declared.step_set.StepSet.{StepSet}
use Rattle.pb_protocol_tree.specs.Form.{step_set_form}
use Rattle.pb_protocol_unfolder.specs.Plain.{flat_set}
use Rattle.pb_protocol_unfolder.proofs.Chains.{union-flat}
use Rattle.pb_protocol_unfolder.proofs.plain_formula.+flat_sets.Goals as goal

pub flat_step_set-returns : goal.flat_step_set-returns
flat_step_set-returns t c =
    union-flat c.in_ok-first-in-Union.first c.in_ok-links-in-Union.links c.in-Union.first c.in-Union.links c.in_ok-first-in-Union.ensures c.in_ok-links-in-Union.ensures
    ∙ ap (λ (A : StepSet). flat_set (step_set_form A)) (sym c.in-Union.is)
