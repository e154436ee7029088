use Rattle.std.proofs.Common.{◌++◌, string_bytes, sym, ◌∙◌}
use Rattle.pb_evidence_words.specs.Callers.{told_by}
use Rattle.pb_evidence_words.specs.WhyText.{below_text, line_text, written_text}
use Rattle.pb_evidence_words.proofs.LeftOut.{written-some}
use Rattle.pb_evidence_words.proofs.Pushed.{and_then, said_as}
use Rattle.pb_evidence_words.proofs.line.Line.push_written.Goals as goal

pub returns : goal.returns
returns c =
    let t = told_by c.args.self.now in
    let k = c.args.self.now.number in
    let s0 = string_bytes c.args.text.now in
    let s1 = string_bytes c.push.new.text in
    let s2 = string_bytes c.push_below.new.text in
    said_as c.push_below.result s0 s2 (line_text t k ++ below_text t k) (written_text t k)
    (written-some t k (sym c.requires.arrival.passes ∙ c.if-arrival.false))
    (and_then c.push_below.result s0 s1 s2 (line_text t k) (below_text t k) c.in_ok-push.ensures c.push_below.ensures)
