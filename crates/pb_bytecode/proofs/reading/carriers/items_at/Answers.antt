use Rattle.std.proofs.lemmas.Result.{err_from_is_err_and}
use Rattle.pb_bytecode.specs.Reading.{carrier_at}
use Rattle.pb_bytecode.proofs.Loop.{goes_on, stops, is_done}
use Rattle.pb_bytecode.proofs.reading.carriers.items_at.Goals as goal

pub returns-in_err-carrier : goal.returns-in_err-carrier
returns-in_err-carrier c =
    let p = err_from_is_err_and c.from_residual-in_err-carrier.result c.from_residual-in_err-carrier.ensures.1 in
    rw (p.1, p.2)
    (stops (carrier_at c.args.sizes.now) c.in_err-carrier.field-0.0 c.loop.carriers.items c.args.count
    c.loop.counter c.loop.rest.now _ c.loop-test.true c.in_err-carrier.ensures c.loop.invariant)

pub loop-preserved : goal.loop-preserved
loop-preserved c =
    rw c.in_ok-push.ensures.items
    (goes_on (carrier_at c.args.sizes.now) c.loop.carriers.items c.args.count c.loop.counter c.loop.rest.now
    c.in_ok-carrier.carrier c.in_ok-carrier.after.now _ c.loop-test.true c.in_ok-carrier.ensures c.loop.invariant)

pub returns : goal.returns
returns c = is_done (carrier_at c.args.sizes.now) c.loop.carriers.items c.args.count c.loop.counter c.loop.rest.now _ c.loop-test.false c.loop.invariant
