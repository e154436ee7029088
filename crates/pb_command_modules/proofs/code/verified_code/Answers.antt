-- What was verified is the module that the bytes spell.
use Rattle.std.proofs.Common.{sym, subst}
use Rattle.pb_base.proofs.Faults.{if_raised}
use Rattle.pb_bytecode.specs.Decoded.{module_contents}
use Rattle.pb_command_modules.specs.Answers.{IsModuleOfCode}
use Rattle.pb_command_modules.specs.Refusals.{IsUnlisted, IsUnverified}
use Rattle.pb_command_faults.proofs.HandedUp.{handed_on}
use Rattle.pb_command_modules.proofs.Refusals.{unlisted}
use Rattle.pb_command_modules.proofs.code.verified_code.Goals as goal

pub returns-in-Ok-clause-module : goal.returns-in-Ok-clause-module
returns-in-Ok-clause-module c =
    subst (IsModuleOfCode c.args.counting c.args.bytes.now) (sym c.in-Ok.ensures.same)
    (record { spell = c.in_ok-module.ensures.«module»; accepted = c.in-Ok.ensures.accepted })

pub returns-in-Err-clause-refused : goal.returns-in-Err-clause-refused
returns-in-Err-clause-refused c =
    if_raised c.in-Err.error c.raise.result c.raise.ensures
    (λ fault above same unaccepted. subst (IsUnverified c.args.counting c.args.bytes.now) (sym same)
    (module_contents c.in_ok-module.module, c.in_ok-module.ensures.«module», unaccepted))
    c.in-Err.ensures.refused

pub returns-in_err-module-clause-refused : goal.returns-in_err-module-clause-refused
returns-in_err-module-clause-refused c =
    let counting = c.args.counting in
    let bytes = c.args.bytes.now in
    handed_on (IsUnlisted counting bytes) (IsUnverified counting bytes) (unlisted counting bytes)
    c.in_err-module.field-0.0 c.from_residual.result c.in_err-module.ensures.refused c.from_residual.ensures.1
