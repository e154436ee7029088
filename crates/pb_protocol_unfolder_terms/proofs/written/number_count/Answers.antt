use Rattle.std.proofs.Common.{arith, ◌+◌}
use Rattle.std.proofs.lemmas.Int.{ints}
use Rattle.pb_protocol_unfolder_terms.proofs.ValueLemmas.{length-interval}
use Rattle.pb_protocol_unfolder_terms.proofs.written.number_count.Goals as goal

pub returns-clause-count : goal.returns-clause-count
returns-clause-count c = length-interval c.args.low c.args.high (c.from.result + 1) (omega (arith, ints, c.abs_diff.ensures, c.from.ensures))
