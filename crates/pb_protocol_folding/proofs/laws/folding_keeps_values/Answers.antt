use Rattle.pb_protocol_folding.proofs.FoldingLaws as laws
use Rattle.pb_protocol_folding.proofs.laws.folding_keeps_values.Goals as goal

pub returns : goal.returns
returns c = laws.folding_keeps_values
