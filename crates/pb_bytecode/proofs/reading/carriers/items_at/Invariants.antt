use Rattle.std.proofs.Common.{◌≡◌, ◌-◌}
use Rattle.pb_bytecode.specs.Reading.{carrier_at, items_at}
use Rattle.pb_bytecode.proofs.Loop.{with_front}
use Rattle.pb_bytecode.proofs.reading.carriers.items_at.Given as goal

abbrev pub invariant-loop : goal.invariant-loop
invariant-loop l = with_front l.carriers.items (items_at (carrier_at l.sizes) (l.count - l.counter) l.rest) ≡ items_at (carrier_at l.sizes) l.count l.bytes
