use Rattle.pb_protocol_laws.proofs.PackedWords.{packed-formula-writable}
use Rattle.pb_protocol_laws.proofs.spelling.packed_formulas_are_writable.Goals as goal

pub returns : goal.returns
returns c = packed-formula-writable
