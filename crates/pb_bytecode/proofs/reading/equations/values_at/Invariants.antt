use Rattle.std.proofs.Common.{◌≡◌, drop}
use Rattle.pb_bytecode.specs.Reading.{values_at}
use Rattle.pb_bytecode.proofs.Loop.{with_front}
use Rattle.pb_bytecode.proofs.reading.equations.values_at.Given as goal

abbrev pub invariant-loop-carrier : goal.invariant-loop-carrier
invariant-loop-carrier l = with_front l.values.items (values_at (drop l.carrier-index l.carriers) l.rest) ≡ values_at l.carriers l.bytes
