use Rattle.pb_protocol_laws.proofs.PackedWords.{packed-writable}
use Rattle.pb_protocol_laws.proofs.spelling.packed_models_are_writable.Goals as goal

pub returns : goal.returns
returns c = packed-writable
