use Rattle.pb_assembler_modules.proofs.Unique.{one_module}
use Rattle.pb_assembler_modules.proofs.laws.compiled_modules_are_unique.Goals as goal

pub returns : goal.returns
returns c = one_module
