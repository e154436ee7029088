use Rattle.std.proofs.Common.{◌∙◌, ◌+◌, ◌-◌, length, arith, refl, sym}
use Rattle.pb_typing_calls.proofs.Holding.{held, part-length, replaced, tuple-length, written}
use Rattle.pb_typing_calls.proofs.loops.Loops.advance.Goals as goal

pub advance-requires : goal.advance-requires
advance-requires c =
    let l = c.args.self.now in
    part-length c.args.slots.now l.slot (length l.carriers.now) _ c.requires refl

pub returns-clause-next : goal.returns-clause-next
returns-clause-next c = λ outer k h yes.
    let l = c.args.self.now in
    let n = l.slot + length l.carriers.now - l.slot in
    let old = tuple-length l k h.tuple h.at in
    let vs = c.advance.new.values in
    let at = c.advance.ensures.next k (held h n (omega arith)) yes in
    let new = tuple-length l (k + 1) vs at in
    record {
      tuple = vs;
      at = at;
      room = omega (arith, old, new, h.room);
      is = written l c.args.slots.now vs n (omega (arith, new)) ∙ replaced l outer c.args.slots.now vs k h (old ∙ sym new);
    }

pub returns-clause-last : goal.returns-clause-last
returns-clause-last c = λ outer k h no. c.advance.ensures.last k (held h _ (omega arith)) no
