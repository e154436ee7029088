use Rattle.std.proofs.Common.{arith}
use Rattle.pb_protocol_folding.specs.View.{spec_of}
use Rattle.pb_protocol_folding.proofs.Arguments.{others-whole}
use Rattle.pb_protocol_folding.proofs.application.outcome.Goals as goal

pub returns-in_default-2 : goal.returns-in_default-2
returns-in_default-2 c = others-whole (spec_of c.args.sorts.now) c.args.function.now c.args.arguments.now (omega arith) (omega arith) c.requires
