use Rattle.std.specs.Slice.Iter.{iter_rest}
use Rattle.pb_sorts.proofs.Reading.{IsReading}
use Rattle.pb_sorts.proofs.tuple.place_of_tuple.Given as goal

-- the values that the iterator has left are still to be read
abbrev pub invariant-loop-carrier : goal.invariant-loop-carrier
invariant-loop-carrier l = IsReading l.carriers l.values l.place (iter_rest l.carrier-iterator.a) (iter_rest l.carrier-iterator.b)
