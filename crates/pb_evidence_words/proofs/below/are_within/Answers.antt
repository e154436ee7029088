use Rattle.std.proofs.Common.{sym}
use Rattle.pb_sorts.proofs.Reading.{is_within-other_length}
use Rattle.pb_evidence_words.proofs.below.are_within.Goals as goal

pub returns-then-carriers-values : goal.returns-then-carriers-values
returns-then-carriers-values c = sym (is_within-other_length c.args.carriers.now c.args.values.now c.if-carriers-values.true)
