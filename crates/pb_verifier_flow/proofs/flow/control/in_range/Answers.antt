use Rattle.std.proofs.Common.{sym, ◌∙◌, refl}
use Rattle.pb_verifier_flow.proofs.Ranges.{top_outside, top_inside, top_both}
use Rattle.pb_verifier_flow.proofs.flow.control.in_range.Goals as goal

pub returns-in_default-clause-flows : goal.returns-in_default-clause-flows
returns-in_default-clause-flows c =
    rw (c.jump.ensures)
    (top_outside c.args.state c.in_ok-interval.interval c.args.range c.args.range.low c.args.range.high c.args.target
    refl c.in_ok-interval.ensures.ordered c.requires c.in_ok-interval.ensures.ok (sym c.in_default.is ∙ c.cut.ensures))

pub returns-then-is_within-clause-flows : goal.returns-then-is_within-clause-flows
returns-then-is_within-clause-flows c =
    rw (c.next.ensures)
    (top_inside c.args.state c.narrow_top.new.self c.in_ok-interval.interval c.args.range c.in-Some.inside
    c.args.range.low c.args.range.high c.args.target refl c.in_ok-interval.ensures.ordered c.requires
    c.in_ok-interval.ensures.ok (c.if-is_within.ensures.0 refl) c.in-Some.ensures c.narrow_top.ensures)

pub returns-clause-flows : goal.returns-clause-flows
returns-clause-flows c =
    rw (c.from.ensures, c.in_ok-jump.ensures)
    (top_both c.args.state c.narrow_top-2.new.self c.in_ok-interval.interval c.args.range c.in-Some.inside
    c.args.range.low c.args.range.high c.args.target refl c.in_ok-interval.ensures.ordered c.requires
    c.in_ok-interval.ensures.ok (λ within. let e = c.if-is_within.ensures.1 within in cc) c.in-Some.ensures c.narrow_top-2.ensures)
