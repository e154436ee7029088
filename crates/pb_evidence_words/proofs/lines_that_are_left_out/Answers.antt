use Rattle.pb_evidence_words.proofs.LeftOut.{edges-written, origins-written}
use Rattle.pb_evidence_words.proofs.lines_that_are_left_out.Goals as goal

pub returns-clause-edges : goal.returns-clause-edges
returns-clause-edges c = edges-written

pub returns-clause-origins : goal.returns-clause-origins
returns-clause-origins c = origins-written
