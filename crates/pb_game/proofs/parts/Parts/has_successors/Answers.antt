use Rattle.std.proofs.Common.{arith, get_or, ◌≤◌, ◌+◌, length}
use Rattle.pb_game.proofs.Rising.{rising_le}
use Rattle.pb_game.proofs.parts.Parts.has_successors.Goals as goal

pub row_of-requires-clause-within : goal.row_of-requires-clause-within
row_of-requires-clause-within c =
    let p = c.args.self.now in
    let h = c.requires in
    let bound : get_or p.places.items (c.loop-v.v + 1) 0 ≤ get_or p.places.items (length p.owners.items) 0 =
    rising_le p.places.items h.rising (c.loop-v.v + 1) (length p.owners.items) (omega arith) (omega (arith, h.size)) in
    let bound' : get_or p.places.items (c.loop-v.v + 1) 0 ≤ length p.successors.items = omega (arith, bound, h.last) in
    rw (c.deref-in-loop-v.ensures.value, c.deref-in-loop-v-2.ensures.value) bound'
