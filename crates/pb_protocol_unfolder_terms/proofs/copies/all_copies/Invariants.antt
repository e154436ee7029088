use Rattle.std.proofs.Common.{◌≡◌, ◌++◌, map, drop}
use Rattle.std.specs.Prelude.{flat_map}
use Rattle.pb_protocol_unfolder_terms.specs.AssignmentCopies.{copies_behind, copy_behind}
use Rattle.pb_protocol_unfolder_terms.proofs.copies.all_copies.Given as goal

abbrev pub invariant-loop-spread : goal.invariant-loop-spread
invariant-loop-spread l = map copy_behind l.copies.items ++ flat_map copies_behind (drop l.spread-index l.spreads) ≡ flat_map copies_behind l.spreads
