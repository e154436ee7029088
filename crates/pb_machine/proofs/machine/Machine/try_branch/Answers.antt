use Rattle.pb_machine.proofs.Runs.{still_running}
use Rattle.pb_machine.proofs.machine.Machine.try_branch.Goals as goal

pub try_jump-requires : goal.try_jump-requires
try_jump-requires c = still_running c.requires c.try_not.ensures

pub returns : goal.returns
returns c p n tokens run = c.try_jump.ensures p n tokens (c.try_not.ensures p n tokens run)
