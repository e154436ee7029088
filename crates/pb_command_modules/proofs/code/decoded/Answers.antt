-- What was decoded is what the bytes spell.
use Rattle.std.proofs.Common.{sym, subst}
use Rattle.pb_base.proofs.Faults.{if_raised}
use Rattle.pb_command_modules.specs.Refusals.{IsUnlisted}
use Rattle.pb_command_modules.proofs.code.decoded.Goals as goal

pub returns-in-Ok-clause-module : goal.returns-in-Ok-clause-module
returns-in-Ok-clause-module c = record { within_limits = c.in-Ok.«module».within_limits; few = c.in-Ok.ensures.few; spelled = c.in-Ok.ensures.spelled }

pub returns-in-Err-clause-refused : goal.returns-in-Err-clause-refused
returns-in-Err-clause-refused c =
    if_raised c.in-Err.error c.raise.result c.raise.ensures (λ fault above same first. subst (IsUnlisted c.args.counting c.args.bytes.now) (sym same) first)
    c.in-Err.ensures.fault
