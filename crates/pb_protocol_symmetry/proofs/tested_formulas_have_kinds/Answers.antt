use Rattle.pb_protocol_symmetry.proofs.ProtocolTest.{formulas-tested}
use Rattle.pb_protocol_symmetry.proofs.tested_formulas_have_kinds.Goals as goal

pub returns : goal.returns
returns c = formulas-tested
