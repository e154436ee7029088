use Rattle.pb_protocol_laws.proofs.PlainWords.{plain-formula-writable}
use Rattle.pb_protocol_laws.proofs.spelling.plain_formulas_are_writable.Goals as goal

pub returns : goal.returns
returns c = plain-formula-writable
