use Rattle.std.proofs.Common.{◌≡◌, ◌++◌, ℕ, Bool, List, codes, string_bytes, ap, ◌∙◌}
use Rattle.pb_report.specs.EvidenceText.{cut_mark, truth_mark}
use Rattle.pb_evidence_words.specs.Ready.{told_of}
use Rattle.pb_evidence_words.specs.InstanceLines.{told_dependencies, instance_text}
use Rattle.pb_evidence_words.specs.WhyText.{is_cut_at, line_instance}
use Rattle.pb_evidence_words.specs.declared.line.Line.{Line}
use Rattle.pb_evidence_words.specs.Callers.{told_by}
use Rattle.pb_evidence_words.proofs.Told.{caller-at, instance-said}
use Rattle.pb_evidence_words.proofs.Pushed.{and_then, pushed}
use Rattle.pb_evidence_words.proofs.line.Line.push_instance_line.Goals as goal

pub returns : goal.returns
returns c =
    let t = told_of c.args.self.now.telling.now.shown.now in
    let k = c.args.self.now.number in
    let r = c.push_str.result in
    let s0 = string_bytes c.args.text.now in
    let s1 = string_bytes c.push_instance.new.text in
    let s2 = string_bytes c.push_truth.new.text in
    let s3 = string_bytes c.push_dependencies.new.text in
    let s4 = string_bytes c.push_cut_mark.new.text in
    let s5 = string_bytes c.push_str.new.self in
    let name = instance_text t (line_instance t k) in
    let truth = truth_mark t.truth in
    let rests = told_dependencies t k in
    let cut = cut_mark (is_cut_at t k) in
    let caller = c.in_ok-caller.caller in
    let line : caller.line ≡ c.args.self.now = c.in_ok-caller.ensures in
    let made = caller-at (told_by caller.line) t caller.line.number k (ap told_by line) (ap (λ (l : Line). l.number) line) caller.made in
    let named : s1 ≡ s0 ++ name = c.in_ok-push_instance.ensures ∙ ap (λ (x : List ℕ). s0 ++ x) (instance-said t k _ _ made) in
    let told : s2 ≡ s1 ++ truth = c.in_ok-push_truth.ensures ∙ ap (λ (b : Bool). s1 ++ truth_mark b) c.truth.ensures in
    let rested : s3 ≡ s2 ++ rests = c.in_ok-push_dependencies.ensures ∙ ap (λ (l : Line). s2 ++ told_dependencies (told_by l) l.number) line in
    let marked : s4 ≡ s3 ++ cut = c.in_ok-push_cut_mark.ensures ∙ ap (λ (b : Bool). s3 ++ cut_mark b) c.is_cut.ensures in
    and_then r s0 s1 s5 name (truth ++ (rests ++ (cut ++ codes "\n"))) named
    (and_then r s1 s2 s5 truth (rests ++ (cut ++ codes "\n")) told
    (and_then r s2 s3 s5 rests (cut ++ codes "\n") rested
    (and_then r s3 s4 s5 cut (codes "\n") marked
    (pushed r s5 s4 (codes "\n") c.push_str.ensures.bytes))))
