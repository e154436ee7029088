use Rattle.std.proofs.Common.{◌≡◌, ◌-◌}
use Rattle.pb_bytecode.specs.Reading.{op_at, items_at}
use Rattle.pb_bytecode.proofs.Loop.{with_front}
use Rattle.pb_bytecode.proofs.reading.instructions.ops_at.Given as goal

abbrev pub invariant-loop : goal.invariant-loop
invariant-loop l = with_front l.code.items (items_at (op_at l.version l.sizes) (l.count - l.counter) l.rest) ≡ items_at (op_at l.version l.sizes) l.count l.bytes
