use Rattle.pb_bytecode.proofs.ModuleLaws.{one_spelling}
use Rattle.pb_bytecode.proofs.laws.no_spelling_begins_another.Goals as goal

pub returns : goal.returns
returns c = one_spelling
