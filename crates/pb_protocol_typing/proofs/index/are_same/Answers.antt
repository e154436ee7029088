use Rattle.std.proofs.Common.{arith}
use Rattle.pb_protocol_typing.proofs.Steps.{other-lengths}
use Rattle.pb_protocol_typing.proofs.index.are_same.Goals as goal

pub returns-then-left-right : goal.returns-then-left-right
returns-then-left-right c = other-lengths c.args.left.now c.args.right.now (λ e. absurd (omega (arith, e, c.if-left-right.true)))
