use Rattle.std.proofs.Common.{sym}
use Rattle.pb_evidence_words.proofs.Told.{empty-views}
use Rattle.pb_evidence_words.proofs.line.are_none.Goals as goal

pub returns : goal.returns
returns c = sym (empty-views c.args.calls.now)
