use Rattle.std.proofs.Common.{[]}
use Rattle.pb_verifier_flow.proofs.Dispatch.{enum_goes, enum_fails}
use Rattle.pb_verifier_flow.proofs.flow.control.push_enum.Goals as goal

pub returns-clause-flows : goal.returns-clause-flows
returns-clause-flows c =
    enum_goes c.args.sorts.now [] c.args.state.now c.args.sort c.args.index c.in-Some.count c.push.new.self
    c.push.result c.in-Some.ensures c.if-index-count.false c.push.ensures.flows

pub returns-clause-refused : goal.returns-clause-refused
returns-clause-refused c = enum_fails c.args.sorts.now [] c.args.state.now c.args.sort c.args.index c.in-Some.count c.push.result c.in-Some.ensures c.if-index-count.false c.push.ensures.refused
