use Rattle.std.proofs.Common.{arith}
use Rattle.pb_protocol_typing.specs.View.{scope_of}
use Rattle.pb_protocol_typing.proofs.Rows.{few-choice}
use Rattle.pb_protocol_typing.proofs.term_kind.is_choice.Goals as goal

pub returns-in_default : goal.returns-in_default
returns-in_default c = few-choice (scope_of c.args.scope.now) c.args.arguments.now (omega (arith, c.in_default.len_below))
