use Rattle.std.proofs.Common.{sym, ◌∙◌, refl}
use Rattle.std.proofs.lemmas.Result.{err_from_is_err_and}
use Rattle.pb_verifier_flow.proofs.Ranges.{slot_outside, slot_inside, slot_both}
use Rattle.pb_verifier_flow.proofs.flow.control.slot_in_range.Goals as goal

pub returns-in_default-clause-flows : goal.returns-in_default-clause-flows
returns-in_default-clause-flows c =
    rw (c.jump.ensures)
    (slot_outside c.args.state c.args.slot c.in_ok-interval.interval c.args.range c.args.range.low c.args.range.high
    c.args.target refl c.in_ok-interval.ensures.ordered c.requires c.in_ok-interval.ensures.ok (sym c.in_default.is ∙ c.cut.ensures))

pub returns-then-is_within-clause-flows : goal.returns-then-is_within-clause-flows
returns-then-is_within-clause-flows c =
    rw (c.next.ensures)
    (slot_inside c.args.state c.narrow_slot.new.self c.args.slot c.in_ok-interval.interval c.args.range c.in-Some.inside
    c.args.range.low c.args.range.high c.args.target refl c.in_ok-interval.ensures.ordered c.requires
    c.in_ok-interval.ensures.ok (c.if-is_within.ensures.0 refl) c.in-Some.ensures c.narrow_slot.ensures)

pub returns-clause-flows : goal.returns-clause-flows
returns-clause-flows c =
    rw (c.from.ensures, c.in_ok-jump.ensures)
    (slot_both c.args.state c.narrow_slot-2.new.self c.args.slot c.in_ok-interval.interval c.args.range c.in-Some.inside
    c.args.range.low c.args.range.high c.args.target refl c.in_ok-interval.ensures.ordered c.requires
    c.in_ok-interval.ensures.ok (λ within. let e = c.if-is_within.ensures.1 within in cc) c.in-Some.ensures c.narrow_slot-2.ensures)

pub returns-in_err-interval-clause-refused : goal.returns-in_err-interval-clause-refused
returns-in_err-interval-clause-refused c =
    let p = err_from_is_err_and c.from_residual.result c.from_residual.ensures.1 in
    rw (p.1, p.2) (λ program home q. c.in_err-interval.ensures.err _)
