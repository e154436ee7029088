-- A module that has no explanation has too large a game.
use Rattle.std.proofs.Common.{sym, subst}
use Rattle.pb_base.proofs.Faults.{if_raised}
use Rattle.pb_command_modules.specs.Refusals.{IsRefusedModule}
use Rattle.pb_command_modules.proofs.module.explained.Goals as goal

pub returns-in-Err-clause-refused : goal.returns-in-Err-clause-refused
returns-in-Err-clause-refused g c =
    if_raised c.in-Err.error c.raise.result c.raise.ensures (λ _ above same large. subst (IsRefusedModule c.args.counting c.args.verified.now) (sym same) large)
    c.in-Err.ensures
