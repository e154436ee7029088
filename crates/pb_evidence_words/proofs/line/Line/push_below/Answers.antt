use Rattle.std.proofs.Common.{◌≡◌, ◌++◌, flat_map, string_bytes, ap, ◌∙◌}
use Rattle.pb_evidence_words.specs.declared.line.Line.{Line}
use Rattle.pb_evidence_words.specs.Callers.{told_by}
use Rattle.pb_evidence_words.specs.WhyText.{cuts_text, dependencies_at, edge_text, end_text}
use Rattle.pb_evidence_words.proofs.Pushed.{and_then}
use Rattle.pb_evidence_words.proofs.line.Line.push_below.Goals as goal

pub returns : goal.returns
returns c =
    let t = told_by c.args.self.now in
    let k = c.args.self.now.number in
    let s0 = string_bytes c.args.text.now in
    let s1 = string_bytes c.push_edges.new.text in
    let s2 = string_bytes c.push_cuts_at.new.text in
    let s3 = string_bytes c.push_end.new.text in
    let line = c.in_ok-caller.ensures in
    let edges = flat_map (edge_text t k) (dependencies_at t k) in
    let edged : s1 ≡ s0 ++ edges = c.in_ok-push_edges.ensures
    ∙ ap (λ (l : Line). s0 ++ flat_map (edge_text (told_by l) l.number) (dependencies_at (told_by l) l.number)) line in
    let cut : s2 ≡ s1 ++ cuts_text t k = c.in_ok-push_cuts_at.ensures ∙ ap (λ (l : Line). s1 ++ cuts_text (told_by l) l.number) line in
    and_then c.push_end.result s0 s1 s3 edges (cuts_text t k ++ end_text t k) edged
    (and_then c.push_end.result s1 s2 s3 (cuts_text t k) (end_text t k) cut c.push_end.ensures)
