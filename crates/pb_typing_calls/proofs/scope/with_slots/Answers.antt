use Rattle.std.proofs.Common.{◌++◌, ◌-◌}
use Rattle.std.specs.List.{range_with_len}
use Rattle.pb_typing_calls.proofs.Pushed.{pushed-number}
use Rattle.pb_typing_calls.proofs.scope.with_slots.Goals as goal

pub loop-slot-preserved : goal.loop-slot-preserved
loop-slot-preserved c =
    pushed-number c.loop-slot.slots.items c.push.new.self.items
    (c.args.own.now ++ range_with_len c.args.start (c.args.end - c.args.start)) c.loop-slot.slot
    c.args.end c.loop-slot-test.true c.in_ok-push.ensures.items c.loop-slot.invariant
