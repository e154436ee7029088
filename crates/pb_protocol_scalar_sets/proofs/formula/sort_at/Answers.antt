use Rattle.std.proofs.Common.{◌∙◌, ◌-◌, sym, arith}
use Rattle.pb_protocol_scalar_sets.proofs.Formulas.{sort-here, sort-past}
use Rattle.pb_protocol_scalar_sets.proofs.formula.sort_at.Goals as goal

pub returns-then-left-count : goal.returns-then-left-count
returns-then-left-count c =
    let g = c.group-item.result in
    sort-here c.args.groups.now c.loop-group.group-index g c.loop-group-test.true c.group-item.is c.loop-group.left
    (omega (arith, c.len-count.ensures, g.names.ok.0, c.if-left-count.true))
    ∙ sym c.loop-group.invariant

pub loop-group-preserved : goal.loop-group-preserved
loop-group-preserved c =
    let g = c.group-item.result in
    c.loop-group.invariant
    ∙ sort-past c.args.groups.now c.loop-group.group-index g c.loop-group-test.true c.group-item.is c.loop-group.left (c.loop-group.left - c.len-count.result)
    (omega (arith, c.len-count.ensures, g.names.ok.0, c.if-left-count.false))
