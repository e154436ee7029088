use Rattle.std.proofs.Common.{◌∙◌, ◌&&◌, Bool, refl, sym, ap}
use Rattle.std.specs.List.{list_all}
use Rattle.pb_protocol_tree.specs.Form.{step_form}
use Rattle.pb_protocol_meaning.specs.Erase.{erased_step}
use Rattle.pb_protocol_scalar_sets.specs.Formulas.{set_link_fits}
use Rattle.pb_protocol_scalar_sets.specs.View.{scope_of}
use Rattle.pb_protocol_scalar_sets.proofs.Formulas.{union-fits}
use Rattle.pb_protocol_scalar_sets.proofs.formula.+step_sets.Goals as goal

pub set_fits-returns-then-not-set_fits : goal.set_fits-returns-then-not-set_fits
set_fits-returns-then-not-set_fits t c =
    let scope = scope_of c.args.around.now in
    let a = erased_step (step_form c.args.step.now) in
    let n = c.in-Union in
    sym (union-fits c.args.context.now scope a c.args.set.now c.deref-in-Union.result.now n.first n.links n.links.items n.is c.deref-in-Union.ensures refl
    ∙ ap (λ (b : Bool). b && list_all (set_link_fits c.args.context.now scope a) n.links.items) (sym c.set_fits-in-Union.ensures ∙ c.if-not-set_fits.true))

pub set_fits-returns-else-not-set_fits : goal.set_fits-returns-else-not-set_fits
set_fits-returns-else-not-set_fits t c =
    let scope = scope_of c.args.around.now in
    let a = erased_step (step_form c.args.step.now) in
    let n = c.in-Union in
    let ls = c.deref-in-Union-2.result.now in
    c.set_links_fit.ensures
    ∙ sym (union-fits c.args.context.now scope a c.args.set.now c.deref-in-Union.result.now n.first n.links ls n.is c.deref-in-Union.ensures c.deref-in-Union-2.ensures.value
    ∙ ap (λ (b : Bool). b && list_all (set_link_fits c.args.context.now scope a) ls) (sym c.set_fits-in-Union.ensures ∙ c.if-not-set_fits.false))
