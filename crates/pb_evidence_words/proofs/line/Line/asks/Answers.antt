use Rattle.std.proofs.Common.{ap, ◌∙◌}
use Rattle.pb_sorts.specs.Instance.{Instance}
use Rattle.pb_evidence_words.specs.Callers.{told_by}
use Rattle.pb_evidence_words.specs.WhyText.{asks_at}
use Rattle.pb_evidence_words.proofs.line.Line.asks.Goals as goal

pub returns : goal.returns
returns c = c.asks.ensures ∙ ap (λ (i : Instance). asks_at (told_by c.args.self.now) i) c.instance-instance.ensures.value
