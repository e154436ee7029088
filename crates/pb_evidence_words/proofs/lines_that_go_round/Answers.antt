use Rattle.pb_evidence_words.proofs.Rounds.{lines-go-round}
use Rattle.pb_evidence_words.proofs.lines_that_go_round.Goals as goal

pub returns : goal.returns
returns c = lines-go-round
