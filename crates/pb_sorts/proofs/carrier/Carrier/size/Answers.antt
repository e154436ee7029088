use Rattle.std.proofs.Common.{sym, arith}
use Rattle.std.proofs.lemmas.Int.{ints}
use Rattle.pb_sorts.specs.Carrier.{values_of}
use Rattle.pb_sorts.proofs.Intervals.{length-from_interval}
use Rattle.pb_sorts.proofs.carrier.Carrier.size.Goals as goal

pub returns-clause-count : goal.returns-clause-count
returns-clause-count c =
    let b = c.bounds-least in
    sym (length-from_interval (values_of c.args.self.now) b.result.0 b.result.1 _ b.ensures.interval (omega (arith, ints)))
