use Rattle.std.proofs.Common.{◌≡◌, ◌-◌, map}
use Rattle.pb_bytecode.specs.Reading.{sort_at, items_at}
use Rattle.pb_bytecode.specs.Views.{sort_contents}
use Rattle.pb_bytecode.proofs.Loop.{with_front}
use Rattle.pb_bytecode.proofs.reading.names.items_at.Given as goal

abbrev pub invariant-loop : goal.invariant-loop
invariant-loop l = with_front (map sort_contents l.sorts.items) (items_at sort_at (l.count - l.counter) l.rest) ≡ items_at sort_at l.count l.bytes
