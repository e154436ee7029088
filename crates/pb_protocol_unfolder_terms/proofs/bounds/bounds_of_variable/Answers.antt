use Rattle.std.proofs.Common.{◌≡◌, ◌∙◌, ◌-◌, List, ℕ, suc, zero, ap, arith, map}
use Rattle.std.specs.Prelude.{if◌then◌else◌}
use Rattle.pb_protocol_unfolder_terms.specs.declared.context.StateVariable.{StateVariable}
use Rattle.pb_protocol_unfolder_terms.specs.Bounds.{either, interval_among, is_plain_name, sort_interval}
use Rattle.pb_protocol_unfolder_terms.specs.Contexts.{spec_in, state_variable_of}
use Rattle.pb_protocol_unfolder_terms.proofs.BoundsLemmas.{variables-from, variables-next, variables-none}
use Rattle.pb_protocol_unfolder_terms.proofs.bounds.bounds_of_variable.Goals as goal
use Rattle.pb_protocol_unfolder_terms.proofs.bounds.bounds_of_variable.Goals.{After-may_be_of}

pub loop-place-init : goal.loop-place-init
loop-place-init c =
    let p = c.is_plain_name-of_plain.result in
    variables-none (spec_in c.args.context.now) p c.args.context.now.variables.items c.args.name.now
    ∙ ap (variables-from (spec_in c.args.context.now) p c.args.context.now.variables.items c.args.name.now) (omega (arith, c.len-place.ensures, c.args.context.now.variables.ok.0))

-- the bounds by the variable at hand and those behind it
variable-here : (c : After-may_be_of)
    → (if c.may_be_of.result then either (sort_interval (spec_in c.args.context.now) c.index-variable.result.now.sort.now) c.loop-place.bounds else c.loop-place.bounds)
    ≡ variables-from (spec_in c.args.context.now) c.is_plain_name-of_plain.result c.args.context.now.variables.items c.args.name.now (c.loop-place.place - 1)
variable-here c =
    let ys = c.args.context.now.variables.items in
    let S = spec_in c.args.context.now in
    let p = c.is_plain_name-of_plain.result in
    let y = c.index-variable.result.now in
    let j : ℕ = c.loop-place.place - 1 in
    let next : c.loop-place.place ≡ suc j = omega (arith, c.loop-place-test.true) in
    ap (λ b. if b then either (sort_interval S y.sort.now) c.loop-place.bounds else c.loop-place.bounds) c.may_be_of.ensures
    ∙ variables-next S p ys c.args.name.now j y (omega (arith, c.loop-place.auto.place, c.loop-place-test.true, c.len-place.ensures, c.args.context.now.variables.ok.0)) c.index-variable.ensures
    (c.loop-place.invariant ∙ ap (variables-from S p ys c.args.name.now) next)

pub loop-place-preserved-then-may_be_of : goal.loop-place-preserved-then-may_be_of
loop-place-preserved-then-may_be_of c =
    c.of_either-bounds.ensures
    ∙ ap (λ i. either i c.loop-place.bounds) (c.bounds_of_sort.ensures ∙ ap (λ T. sort_interval T c.index-variable.result.now.sort.now) c.sorts.ensures)
    ∙ rw c.if-may_be_of.true at (variable-here (goal.at.loop-place-preserved-then-may_be_of c).After-may_be_of)

pub loop-place-preserved : goal.loop-place-preserved
loop-place-preserved c =
    rw c.if-may_be_of.false at (variable-here (goal.at.loop-place-preserved c).After-may_be_of)

pub returns : goal.returns
returns c =
    let ys = c.args.context.now.variables.items in
    let S = spec_in c.args.context.now in
    let x = c.args.name.now in
    let done : c.loop-place.place ≡ zero = omega (arith, c.loop-place-test.false) in
    c.loop-place.invariant ∙ ap (variables-from S c.is_plain_name-of_plain.result ys x) done
    ∙ ap (λ p. interval_among S p (map state_variable_of ys) x)
    (c.is_plain_name-of_plain.ensures ∙ ap (λ (zs : List StateVariable). is_plain_name (map state_variable_of zs) x) c.deref.ensures.value)
