use Rattle.std.proofs.Common.{◌≡◌, drop, map}
use Rattle.std.specs.List.{list_all}
use Rattle.pb_protocol_tree.specs.Form.{step_form, step_set_form}
use Rattle.pb_protocol_meaning.specs.Erase.{erased_step, erased_steps}
use Rattle.pb_protocol_scalar_sets.specs.Formulas.{set_fits}
use Rattle.pb_protocol_scalar_sets.specs.View.{scope_of}
use Rattle.pb_protocol_scalar_sets.proofs.formula.set_fits_all.Given as goal

-- the steps that are left
abbrev pub invariant-loop-step : goal.invariant-loop-step
invariant-loop-step l =
    let fit = list_all (set_fits l.context (scope_of l.around) (erased_steps (step_set_form l.set))) in
    fit (map erased_step (map step_form l.steps)) ≡ fit (map erased_step (map step_form (drop l.step-index l.steps)))
