use Rattle.std.proofs.Common.{◌≡◌, drop}
use Rattle.std.specs.List.{list_all}
use Rattle.pb_protocol_tree.specs.Form.{step_form}
use Rattle.pb_protocol_meaning.specs.Erase.{erased_step}
use Rattle.pb_protocol_scalar_sets.specs.Formulas.{set_link_fits}
use Rattle.pb_protocol_scalar_sets.specs.View.{scope_of}
use Rattle.pb_protocol_scalar_sets.proofs.formula.+step_sets.Given as goal

-- the sets that are left
abbrev pub invariant-set_links_fit-loop-link : goal.invariant-set_links_fit-loop-link
invariant-set_links_fit-loop-link l =
    let fit = list_all (set_link_fits l.context (scope_of l.around) (erased_step (step_form l.step))) in fit l.links ≡ fit (drop l.link-index l.links)
