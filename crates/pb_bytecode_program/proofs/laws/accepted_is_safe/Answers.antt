use Rattle.pb_bytecode_program.proofs.Safe.{is_safe}
use Rattle.pb_bytecode_program.proofs.laws.accepted_is_safe.Goals as goal

pub returns : goal.returns
returns c = is_safe
