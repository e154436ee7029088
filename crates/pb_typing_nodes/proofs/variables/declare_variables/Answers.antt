use Rattle.std.proofs.Common.{◌≡◌, ◌+◌, length, arith}
use Rattle.pb_typing_nodes.proofs.SlotLemmas.{left_next}
use Rattle.pb_typing_nodes.proofs.variables.declare_variables.Goals as goal

pub loop-group-preserved : goal.loop-group-preserved
loop-group-preserved c =
    let names = c.deref.result.now in
    let slot = c.loop-group.slot in
    let next : slot + c.len-slot.result ≡ slot + length names = omega (arith, c.len-slot.ensures, c.deref.ensures.len) in
    left_next c.args.groups.now c.args.carriers.now c.args.first c.loop-group.group-index c.group-item.result names slot (slot + c.len-slot.result) c.loop-group.table c.in_ok-table.table
    c.loop-group-test.true c.group-item.is c.deref.ensures.value next c.in_ok-table.ensures.shapes c.in_ok-table.ensures.slots c.loop-group.invariant
