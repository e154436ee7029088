use Rattle.std.proofs.Common.{◌+◌, ◌-◌, length, arith, refl}
use Rattle.pb_typing_calls.proofs.Holding.{part-length, tuple-length, written}
use Rattle.pb_typing_calls.proofs.loops.Loops.start.Goals as goal

pub start-requires : goal.start-requires
start-requires c =
    let l = c.args.self.now in
    part-length c.args.slots.now l.slot (length l.carriers.now) _ c.requires refl

pub returns : goal.returns
returns c =
    let l = c.args.self.now in
    let n = length l.carriers.now in
    let vs = c.start.new.values in
    let long = tuple-length l 0 vs c.start.ensures.first in
    record {
      tuple = vs;
      at = c.start.ensures.first;
      room = omega (arith, long, c.requires);
      is = written l c.args.slots.now vs (l.slot + n - l.slot) (omega (arith, long));
    }
