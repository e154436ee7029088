use Rattle.std.proofs.Common.{◌+◌, ◌++◌, List, ℕ, codes, decimal, string_bytes, sym, ap, ◌∙◌, append-nil}
use Rattle.pb_evidence_words.specs.Callers.{told_by}
use Rattle.pb_evidence_words.specs.WhyText.{from_text}
use Rattle.pb_evidence_words.proofs.LeftOut.{from-nowhere, from-origin}
use Rattle.pb_evidence_words.proofs.Pushed.{and_then, pushed, said_as}
use Rattle.pb_evidence_words.proofs.line.Line.push_from.Goals as goal

pub returns-then-arrival : goal.returns-then-arrival
returns-then-arrival c =
    let s0 = string_bytes c.args.text.now in
    sym (append-nil s0) ∙ ap (λ (x : List ℕ). s0 ++ x)
    (sym (from-nowhere (told_by c.args.self.now) c.args.self.now.number (sym c.requires.follows ∙ c.if-arrival.true)))

pub returns : goal.returns
returns c =
    let t = told_by c.args.self.now in
    let k = c.args.self.now.number in
    let origin = c.args.arrival.origin in
    let s0 = string_bytes c.args.text.now in
    let s1 = string_bytes c.push_str.new.self in
    let s2 = string_bytes c.push_line_number.new.text in
    let s3 = string_bytes c.push_str-2.new.self in
    said_as c.push_str-2.result s0 s3 (codes "from " ++ (decimal (origin + 1) ++ codes " ")) (from_text t k)
    (from-origin t k origin c.requires.origin (sym c.requires.follows ∙ c.if-arrival.false))
    (and_then c.push_str-2.result s0 s1 s3 (codes "from ") (decimal (origin + 1) ++ codes " ") c.in_ok-push_str.ensures.bytes
    (and_then c.push_str-2.result s1 s2 s3 (decimal (origin + 1)) (codes " ") c.in_ok-push_line_number.ensures
    (pushed c.push_str-2.result s3 s2 (codes " ") c.push_str-2.ensures.bytes)))
