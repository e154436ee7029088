use Rattle.std.proofs.Common.{◌≡◌, ◌+◌, ◌-◌, ◌++◌, [], ◌∷◌, replicate, rules}
use Rattle.pb_protocol_representatives.proofs.Loops.{one-more, replicate-next}
use Rattle.pb_protocol_representatives.proofs.array.push_digits.Goals as goal

pub loop-preserved : goal.loop-preserved
loop-preserved c =
    let n = c.args.array.now.count in
    let digit = c.args.array.now.digit in
    let pushed : c.push.new.self.items ≡ c.loop.digits.items ++ digit ∷ [] = search rules in
    record {
      digits = one-more c.loop.digits.items c.push.new.self.items digit (replicate (n - c.loop.counter) digit) (replicate (n - (c.loop.counter + 1)) digit) _
          pushed (replicate-next n c.loop.counter digit c.loop-test.true) c.loop.invariant.digits;
      few = search rules;
    }
