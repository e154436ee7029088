use Rattle.std.proofs.Common.{◌<◌, map, arith}
use Rattle.pb_base_values.specs.Carrier.{tuple_count}
use Rattle.pb_sorts.specs.declared.counting.TheConstants.{MAX_NUMBERS}
use Rattle.pb_sorts.specs.Carrier.{values_of}
use Rattle.pb_sorts.proofs.Counts.{too_many}
use Rattle.pb_sorts.proofs.tuple.count_tuples.Goals as goal

pub returns-then-product-clause-fits : goal.returns-then-product-clause-fits
returns-then-product-clause-fits c =
    let loop = c.loop-carrier in
    let more : MAX_NUMBERS < tuple_count (map values_of c.args.carriers.now) =
    too_many c.args.carriers.now loop.carrier-index c.carrier-item.result loop.count MAX_NUMBERS
    c.loop-carrier-test.true c.carrier-item.is loop.invariant.product (rw (← c.size.ensures.count) c.if-product.true) in
    grind (arith, more)
