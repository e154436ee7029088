use Rattle.std.proofs.Common.{◌≡◌, ◌-◌, map, vec_len}
use Rattle.pb_bytecode.specs.Views.{text_of}
use Rattle.pb_bytecode.specs.Reading.{name_at, items_at}
use Rattle.pb_bytecode.proofs.Loop.{with_front}
use Rattle.pb_bytecode.proofs.reading.names.names_at.Given as goal

abbrev pub invariant-loop : goal.invariant-loop
invariant-loop l = (with_front (map text_of l.names.items) (items_at name_at (l.count - l.counter) l.rest) ≡ items_at name_at l.count l.bytes) × (vec_len l.names ≡ l.counter)
