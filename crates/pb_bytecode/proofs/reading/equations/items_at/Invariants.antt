use Rattle.std.proofs.Common.{◌≡◌, ◌-◌, map}
use Rattle.pb_bytecode.specs.Reading.{equation_at, items_at}
use Rattle.pb_bytecode.specs.Views.{equation_contents}
use Rattle.pb_bytecode.proofs.Loop.{with_front}
use Rattle.pb_bytecode.proofs.reading.equations.items_at.Given as goal

abbrev pub invariant-loop : goal.invariant-loop
invariant-loop l =
    with_front (map equation_contents l.equations.items)
    (items_at (equation_at l.version l.sizes) (l.count - l.counter) l.rest) ≡ items_at (equation_at l.version l.sizes) l.count l.bytes
