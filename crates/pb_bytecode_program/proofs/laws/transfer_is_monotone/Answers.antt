use Rattle.pb_bytecode_program.proofs.Monotone
use Rattle.pb_bytecode_program.proofs.laws.transfer_is_monotone.Goals as goal

pub returns : goal.returns
returns c = Monotone.transfer_is_monotone
