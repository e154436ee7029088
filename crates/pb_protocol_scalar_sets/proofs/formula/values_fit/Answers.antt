use Rattle.std.proofs.Common.{◌≡◌, ◌∙◌, ◌+◌, ◌&&◌, Bool, Option, map, drop, sym, ap}
use Rattle.pb_text_tree.specs.Form.{variable_forms}
use Rattle.pb_text_meaning.specs.Syntax.{Name}
use Rattle.pb_text_meaning.specs.Erase.{erased_variables}
use Rattle.pb_protocol_tree.specs.Form.{step_value_form}
use Rattle.pb_protocol_meaning.specs.Erase.{erased_value}
use Rattle.pb_protocol_scalar_sets.specs.Formulas.{sort_at, value_fits, values_fit}
use Rattle.pb_protocol_scalar_sets.specs.View.{scope_of}
use Rattle.pb_protocol_scalar_sets.proofs.Formulas.{value-next}
use Rattle.pb_protocol_scalar_sets.proofs.formula.values_fit.Goals as goal
use Rattle.pb_protocol_scalar_sets.proofs.formula.values_fit.Goals.{After-value_fits}

-- the values that are left are this one and those behind it
next : (c : After-value_fits) →
    let zs = erased_variables (variable_forms c.args.groups.now) in
    let fit = values_fit c.args.context.now (scope_of c.args.around.now) in
    fit zs (map erased_value (map step_value_form c.args.values.now))
    ≡ (c.value_fits.result && fit (drop (c.loop-place.place + 1) zs) (map erased_value (map step_value_form (drop (c.loop-place.place + 1) c.args.values.now))))
next c =
    let zs = erased_variables (variable_forms c.args.groups.now) in
    let scope = scope_of c.args.around.now in
    let k = c.loop-place.place in
    let v = c.index-values-place.result in
    let x = erased_value (step_value_form v) in
    let rest = values_fit c.args.context.now scope (drop (k + 1) zs) (map erased_value (map step_value_form (drop (k + 1) c.args.values.now))) in
    let here : c.value_fits.result ≡ value_fits c.args.context.now scope (sort_at zs k) x =
    c.value_fits.ensures ∙ ap (λ (o : Option Name). value_fits c.args.context.now scope o x) c.sort_at.ensures in
    c.loop-place.invariant ∙ (value-next c.args.context.now scope zs c.args.values.now k v c.loop-place-test.true c.index-values-place.is ∙ ap (λ (b : Bool). b && rest) (sym here))

pub returns-then-not-value_fits : goal.returns-then-not-value_fits
returns-then-not-value_fits c =
    let zs = erased_variables (variable_forms c.args.groups.now) in
    let k = c.loop-place.place in
    let rest = values_fit c.args.context.now (scope_of c.args.around.now) (drop (k + 1) zs) (map erased_value (map step_value_form (drop (k + 1) c.args.values.now))) in
    sym (next (goal.at.returns-then-not-value_fits c).After-value_fits ∙ ap (λ (b : Bool). b && rest) c.if-not-value_fits.true)

pub loop-place-preserved : goal.loop-place-preserved
loop-place-preserved c =
    let zs = erased_variables (variable_forms c.args.groups.now) in
    let k = c.loop-place.place in
    let rest = values_fit c.args.context.now (scope_of c.args.around.now) (drop (k + 1) zs) (map erased_value (map step_value_form (drop (k + 1) c.args.values.now))) in
    next (goal.at.loop-place-preserved c).After-value_fits ∙ ap (λ (b : Bool). b && rest) c.if-not-value_fits.false
