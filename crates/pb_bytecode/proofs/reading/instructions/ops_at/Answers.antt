use Rattle.std.proofs.lemmas.Result.{err_from_is_err_and}
use Rattle.pb_bytecode.specs.Reading.{op_at}
use Rattle.pb_bytecode.proofs.Loop.{goes_on, stops, is_done}
use Rattle.pb_bytecode.proofs.reading.instructions.ops_at.Goals as goal

pub returns-in_err-op : goal.returns-in_err-op
returns-in_err-op c =
    let p = err_from_is_err_and c.from_residual-in_err-op.result c.from_residual-in_err-op.ensures.1 in
    rw (p.1, p.2)
    (stops (op_at c.args.version c.args.sizes.now) c.in_err-op.field-0.0 c.loop.code.items c.args.count
    c.loop.counter c.loop.rest.now _ c.loop-test.true c.in_err-op.ensures c.loop.invariant)

pub loop-preserved : goal.loop-preserved
loop-preserved c =
    rw c.in_ok-push.ensures.items
    (goes_on (op_at c.args.version c.args.sizes.now) c.loop.code.items c.args.count c.loop.counter c.loop.rest.now
    c.in_ok-op.op c.in_ok-op.after.now _ c.loop-test.true c.in_ok-op.ensures c.loop.invariant)

pub returns : goal.returns
returns c = is_done (op_at c.args.version c.args.sizes.now) c.loop.code.items c.args.count c.loop.counter c.loop.rest.now _ c.loop-test.false c.loop.invariant
