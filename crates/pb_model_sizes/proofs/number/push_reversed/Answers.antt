use Rattle.std.proofs.Common.{◌-◌, arith}
use Rattle.std.specs.Prelude.{string_bytes}
use Rattle.pb_model_sizes.proofs.DigitLemmas.{reversed-before}
use Rattle.pb_model_sizes.proofs.number.push_reversed.Goals as goal

pub loop-index-preserved : goal.loop-index-preserved
loop-index-preserved c =
    reversed-before c.args.digits.now (string_bytes c.args.lines.now) (string_bytes c.loop-index.lines) (string_bytes c.write.new.self) c.loop-index.index (c.loop-index.index - 1)
    (omega (arith, c.loop-index-test.true)) (omega (arith, c.loop-index-test.true)) c.loop-index.invariant c.in_ok-write.ensures.bytes
